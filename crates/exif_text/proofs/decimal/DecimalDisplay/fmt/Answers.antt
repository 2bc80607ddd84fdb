use Rattle.std.proofs.Common.{arith}
use Rattle.std.proofs.lemmas.Grind.{common_steps}
use Rattle.std.proofs.lemmas.Bool.Decides.{nat_tests}
use Rattle.exif_text.specs.Decimal.{decimal_text}
use Rattle.exif_text.proofs.decimal.DecimalDisplay.fmt.Goals as goal

pub returns-then-denom-eq0-clause-writes : goal.returns-then-denom-eq0-clause-writes
unfolding decimal_text
returns-then-denom-eq0-clause-writes g c = grind (arith, nat_tests, common_steps)

pub returns-clause-writes : goal.returns-clause-writes
unfolding decimal_text
returns-clause-writes g c = grind (arith, nat_tests, common_steps)
