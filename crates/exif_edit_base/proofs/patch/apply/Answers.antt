use Rattle.std.proofs.Common.{arith}
use Rattle.std.proofs.lemmas.Grind.{common_steps}
use Rattle.exif_edit_base.proofs.patch.apply.Goals as goal

pub loop-patch-preserved : goal.loop-patch-preserved
loop-patch-preserved c = grind (arith, common_steps)
