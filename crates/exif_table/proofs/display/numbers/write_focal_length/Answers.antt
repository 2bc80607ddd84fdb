use Rattle.std.proofs.lemmas.Grind.{common_steps}
use Rattle.std.proofs.Common.{arith}
use Rattle.exif_table.proofs.display.numbers.write_focal_length.Goals as goal

pub returns-in-Some-eq0 : goal.returns-in-Some-eq0
returns-in-Some-eq0 g c = grind (arith, common_steps)

pub returns-in_default : goal.returns-in_default
returns-in_default g c = grind (arith, common_steps)
