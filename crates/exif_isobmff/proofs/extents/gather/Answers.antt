use Rattle.std.proofs.lemmas.Grind.{common_steps}
use Rattle.std.proofs.Common.{arith}
use Rattle.exif_isobmff.proofs.extents.gather.Goals as goal

pub returns-in_err-part-clause-gives : goal.returns-in_err-part-clause-gives
returns-in_err-part-clause-gives c = grind (arith, common_steps)

pub returns-then-part-len-clause-gives : goal.returns-then-part-len-clause-gives
returns-then-part-len-clause-gives c = grind (arith, common_steps)

pub loop-extent-preserved : goal.loop-extent-preserved
loop-extent-preserved c = grind (arith, common_steps)
