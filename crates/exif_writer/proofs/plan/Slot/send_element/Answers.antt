use Rattle.exif_writer.proofs.SendSizes.{element_inside}
use Rattle.exif_writer.proofs.SendChains.{sends_then, sends_stop}
use Rattle.exif_writer.proofs.plan.Slot.send_element.Goals as goal

pub returns-in_err-send_content : goal.returns-in_err-send_content
returns-in_err-send_content g c = record {
  sends = rw (element_inside c.args.order c.args.offsets.now c.args.self.now c.if-self-le4.true)
      (sends_stop _ c.in_err-send_content.ensures.sends c.from_residual.ensures.0);
}

pub returns-in_ok-send_content : goal.returns-in_ok-send_content
returns-in_ok-send_content g c = record {
  sends = rw (element_inside c.args.order c.args.offsets.now c.args.self.now c.if-self-le4.true)
      (sends_then c.in_ok-send_content.ensures.sends c.send_zeros.ensures.sends);
}
