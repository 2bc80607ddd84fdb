use Rattle.exif_writer.specs.Sending.{value_text, IsReady}
use Rattle.exif_writer.proofs.SendChains.{sends_none, sends_member, sends_stop_member, sends_members}
use Rattle.exif_writer.proofs.SendSizes.{all_at}
use Rattle.exif_writer.proofs.send.send_values.Goals as goal

pub loop-slot-init : goal.loop-slot-init
loop-slot-init g c = sends_none

pub send_value-requires : goal.send_value-requires
send_value-requires g c =
    all_at (IsReady c.args.offsets.now) c.args.slots.now c.loop-slot.slot-index c.slot-item.result c.slot-item.result c.requires c.loop-slot-test.true c.slot-item.is

pub loop-slot-preserved : goal.loop-slot-preserved
loop-slot-preserved g c =
    sends_member (value_text c.args.order c.args.offsets.now) c.args.slots.now c.loop-slot.slot-index c.slot-item.result c.slot-item.result
    c.loop-slot-test.true c.slot-item.is c.loop-slot.invariant c.in_ok-send_value.ensures.sends

pub returns-in_err-send_value : goal.returns-in_err-send_value
returns-in_err-send_value g c = record {
  sends = sends_stop_member (value_text c.args.order c.args.offsets.now) c.args.slots.now c.loop-slot.slot-index c.slot-item.result c.slot-item.result
      c.loop-slot-test.true c.slot-item.is c.loop-slot.invariant c.in_err-send_value.ensures.sends c.from_residual.ensures.0;
}

pub returns : goal.returns
returns g c = record { sends = sends_members (value_text c.args.order c.args.offsets.now) c.args.slots.now c.loop-slot.slot-index c.loop-slot-test.false c.loop-slot.invariant }
