use Rattle.std.proofs.lemmas.Grind.{common_steps}
use Rattle.std.proofs.Common.{arith}
use Rattle.exif_table.proofs.display.numbers.write_area.Goals as goal

pub returns-in-Some-None : goal.returns-in-Some-None
returns-in-Some-None g c = grind (arith, common_steps)
