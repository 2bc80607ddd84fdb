use Rattle.std.proofs.lemmas.Grind.{common_steps}
use Rattle.std.proofs.Common.{arith}
use Rattle.exif_table.proofs.display.fractions.write_exposure_time.Goals as goal

pub returns-in_ok-write_str-in-Rational-len1-up-2 :
    goal.returns-in_ok-write_str-in-Rational-len1-up-2
returns-in_ok-write_str-in-Rational-len1-up-2 g c = grind (arith, common_steps)
