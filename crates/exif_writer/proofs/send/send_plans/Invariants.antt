use Rattle.std.proofs.Common.{take}
use Rattle.exif_writer.specs.Plans.{plans_text}
use Rattle.exif_writer.proofs.SendChains.{HasSent}
use Rattle.exif_writer.proofs.send.send_plans.Given as goal

abbrev pub invariant-loop-plan : goal.invariant-loop-plan
invariant-loop-plan g l = HasSent g.W.Sink l.initial.out l.out (plans_text l.order (take l.plan-index l.plans))
