use Rattle.std.proofs.Common.{sym}
use Rattle.exif_base.proofs.Sending.{sends_none, sends_member, sends_stop_member, sends_members}
use Rattle.exif_layout.proofs.item.send_items.Goals as goal

pub loop-item-init : goal.loop-item-init
loop-item-init g c = sends_none

pub loop-item-preserved : goal.loop-item-preserved
loop-item-preserved g c =
    sends_member (g.T.Item.spelled c.args.order) c.as_slice-item-items.result.now c.loop-item.item-index c.item-item.result c.item-item.result
    c.loop-item-test.true c.item-item.is c.loop-item.invariant c.in_ok-send.ensures.sends

pub returns-in_err-send : goal.returns-in_err-send
returns-in_err-send g c = record {
  sends = rw c.as_slice-item-items.ensures
      at (sends_stop_member (g.T.Item.spelled c.args.order) c.as_slice-item-items.result.now c.loop-item.item-index c.item-item.result c.item-item.result
      c.loop-item-test.true c.item-item.is c.loop-item.invariant c.in_err-send.ensures.sends c.from_residual.ensures.0);
}

pub returns : goal.returns
returns g c = record {
  sends = rw (sym c.as_slice-item-items.ensures)
      (sends_members (g.T.Item.spelled c.args.order) c.as_slice-item-items.result.now c.loop-item.item-index c.loop-item-test.false c.loop-item.invariant);
}
