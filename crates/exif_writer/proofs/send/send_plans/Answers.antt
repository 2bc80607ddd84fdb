use Rattle.exif_writer.specs.Plans.{plan_text, IsReadyPlan}
use Rattle.exif_writer.proofs.SendChains.{sends_none, sends_member, sends_stop_member, sends_members}
use Rattle.exif_writer.proofs.SendSizes.{all_at}
use Rattle.exif_writer.proofs.send.send_plans.Goals as goal

pub loop-plan-init : goal.loop-plan-init
loop-plan-init g c = sends_none

pub send-requires : goal.send-requires
send-requires g c = all_at IsReadyPlan c.args.plans.now c.loop-plan.plan-index c.plan-item.result c.plan-item.result c.requires c.loop-plan-test.true c.plan-item.is

pub loop-plan-preserved : goal.loop-plan-preserved
loop-plan-preserved g c =
    sends_member (plan_text c.args.order) c.args.plans.now c.loop-plan.plan-index c.plan-item.result c.plan-item.result
    c.loop-plan-test.true c.plan-item.is c.loop-plan.invariant c.in_ok-send.ensures.sends

pub returns-in_err-send : goal.returns-in_err-send
returns-in_err-send g c = record {
  sends = sends_stop_member (plan_text c.args.order) c.args.plans.now c.loop-plan.plan-index c.plan-item.result c.plan-item.result
      c.loop-plan-test.true c.plan-item.is c.loop-plan.invariant c.in_err-send.ensures.sends c.from_residual.ensures.0;
}

pub returns : goal.returns
returns g c = record {
  sends = sends_members (plan_text c.args.order) c.args.plans.now c.loop-plan.plan-index c.loop-plan-test.false c.loop-plan.invariant;
}
