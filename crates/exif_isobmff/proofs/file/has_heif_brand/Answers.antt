use Rattle.std.proofs.lemmas.Grind.{common_steps}
use Rattle.exif_isobmff.proofs.FileBoxes.{no_brand_in}
use Rattle.std.proofs.Common.{arith}
use Rattle.exif_isobmff.proofs.file.has_heif_brand.Goals as goal

pub returns-then-body-ge8 : goal.returns-then-body-ge8
returns-then-body-ge8 c = grind (arith, common_steps, no_brand_in)
