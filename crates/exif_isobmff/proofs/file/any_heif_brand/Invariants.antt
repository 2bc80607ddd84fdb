use Rattle.std.proofs.Common.{◌≡◌, length}
use Rattle.std.specs.List.{list_any}
use Rattle.exif_isobmff.specs.HeifFile.{fours, is_heif_brand}
use Rattle.exif_isobmff.proofs.file.any_heif_brand.Given as goal

abbrev pub invariant-loop-rest : goal.invariant-loop-rest
invariant-loop-rest l = list_any is_heif_brand (fours l.rest) ≡ list_any is_heif_brand (fours l.brands)

abbrev pub decreases-loop-rest : goal.decreases-loop-rest
decreases-loop-rest l = length l.rest
