use Rattle.std.proofs.lemmas.Grind.{common_steps}
use Rattle.std.proofs.Common.{arith}
use Rattle.exif_table.proofs.display.fractions.write_clock_part.Goals as goal

pub returns : goal.returns
returns g c = grind (arith, common_steps)
