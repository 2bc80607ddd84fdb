use Rattle.std.proofs.Common.{◌≡◌, false, take, sym, ◌∙◌, ap}
use Rattle.exif_isobmff.specs.HeifFile.{is_heif_brand}
use Rattle.exif_isobmff.proofs.FileBoxes.{any_went_on}
use Rattle.exif_isobmff.proofs.file.any_heif_brand.Goals as goal

pub loop-rest-preserved : goal.loop-rest-preserved
loop-rest-preserved c =
    let none : is_heif_brand (take 4 c.loop-rest.rest.now) ≡ false = ap is_heif_brand (sym c.split_at.ensures.front) ∙ sym c.if-is_heif_brand.ensures in
    rw c.split_at.ensures.back (any_went_on is_heif_brand c.loop-rest.rest.now _ c.loop-rest-test.true none c.loop-rest.invariant)
