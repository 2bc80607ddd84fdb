use Rattle.exif_writer.proofs.SendSizes.{slot_text_behind}
use Rattle.exif_writer.proofs.SendChains.{sends_then, sends_stop}
use Rattle.exif_writer.proofs.plan.Slot.send.Goals as goal

pub returns-in_err-send_head : goal.returns-in_err-send_head
returns-in_err-send_head g c = record {
  sends = rw (slot_text_behind c.args.order c.args.offsets.now c.args.self.now)
      (sends_stop _ (rw (c.type_number-kind.ensures, c.count-count.ensures) at c.in_err-send_head.ensures.sends) c.from_residual.ensures.0);
}

pub returns-in-Some : goal.returns-in-Some
returns-in-Some g c = record {
  sends = rw (slot_text_behind c.args.order c.args.offsets.now c.args.self.now, c.in-Some.ensures c.args.offsets.now)
      (rw (c.type_number-kind.ensures, c.count-count.ensures) at c.send_entry.ensures.sends);
}

pub returns : goal.returns
returns g c = record {
  sends = rw (slot_text_behind c.args.order c.args.offsets.now c.args.self.now)
      (sends_then (rw (c.type_number-kind.ensures, c.count-count.ensures) at c.in_ok-send_head.ensures.sends) c.send_element.ensures.sends);
}
