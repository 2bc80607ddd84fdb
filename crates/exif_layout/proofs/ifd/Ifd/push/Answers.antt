use Rattle.std.proofs.lemmas.Grind.{common_steps}
use Rattle.std.proofs.Common.{arith}
use Rattle.exif_layout.proofs.ifd.Ifd.push.Goals as goal

pub returns-in_ok-push-in-Gps-clause-pushed :
    goal.returns-in_ok-push-in-Gps-clause-pushed
returns-in_ok-push-in-Gps-clause-pushed c = grind (arith, common_steps)
