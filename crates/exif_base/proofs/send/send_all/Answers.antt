use Rattle.std.proofs.Common.{rules, arith, length, ◌-◌}
use Rattle.exif_base.proofs.Sent.{front_stuck, appends_next}
use Rattle.exif_base.proofs.send.send_all.Goals as goal

pub returns-then-n-eq0 : goal.returns-then-n-eq0
returns-then-n-eq0 g c = record {
  sends = record {
    sent = tt;
    front = front_stuck _ _ _ c.loop-at.at c.in_ok-n.n c.args.bytes.now _ c.loop-at.invariant.sent c.if-n-eq0.true c.in_ok-n.ensures.bytes;
    count = search rules;
    same = search rules;
  };
}

pub loop-at-preserved : goal.loop-at-preserved
loop-at-preserved g c = record {
  in_range = search rules;
  sent = appends_next _ _ _ c.loop-at.at c.in_ok-n.n (length c.args.bytes.now - c.loop-at.at) c.args.bytes.now (omega arith) (search rules) c.loop-at.invariant.sent c.in_ok-n.ensures.bytes;
  count = search rules;
  same = search rules;
}
