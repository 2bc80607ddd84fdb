use Rattle.std.proofs.lemmas.Grind.{common_steps}
use Rattle.std.proofs.Common.{arith}
use Rattle.exif_isobmff.specs.Heif.{after_header}
use Rattle.exif_isobmff.proofs.extents.after_header.Goals as goal

pub returns-clause-gives : goal.returns-clause-gives
unfolding after_header
returns-clause-gives c = grind (arith, common_steps)
