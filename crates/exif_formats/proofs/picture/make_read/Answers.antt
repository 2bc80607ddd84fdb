use Rattle.std.proofs.Common.{ap, sym, ◌∙◌}
use Rattle.exif_formats.specs.Pictures.{is_other_tiff}
use Rattle.exif_formats.proofs.Begins.{other_tiff_long}
use Rattle.exif_formats.proofs.picture.make_read.Goals as goal

pub make_tiff-requires : goal.make_tiff-requires
make_tiff-requires c =
    other_tiff_long c.args.front.now
    (ap is_other_tiff (sym c.requires) ∙ (sym c.is_other_tiff.ensures ∙ c.if-is_other_tiff.true))
