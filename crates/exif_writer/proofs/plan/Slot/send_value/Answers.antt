use Rattle.exif_writer.proofs.PlanSettling.{one_if}
use Rattle.exif_writer.proofs.SendSizes.{value_outside}
use Rattle.exif_writer.proofs.SendChains.{sends_then, sends_stop}
use Rattle.exif_writer.proofs.plan.Slot.send_value.Goals as goal

pub returns-in_err-send_zeros : goal.returns-in_err-send_zeros
returns-in_err-send_zeros g c = record {
  sends = rw (value_outside c.args.order c.args.offsets.now c.args.self.now c.if-self-le4.false)
      (sends_stop _ (rw (c.from.ensures, one_if c.args.self.now.padded) at c.in_err-send_zeros.ensures.sends) c.from_residual.ensures.0);
}

pub returns : goal.returns
returns g c = record {
  sends = rw (value_outside c.args.order c.args.offsets.now c.args.self.now c.if-self-le4.false)
      (sends_then (rw (c.from.ensures, one_if c.args.self.now.padded) at c.in_ok-send_zeros.ensures.sends) c.send_content.ensures.sends);
}
