use Rattle.std.proofs.Common.{arith}
use Rattle.exif_tiff.proofs.DecodeLemmas.{room_step, push_step}
use Rattle.exif_tiff.proofs.decode.decode_items.Goals as goal

pub loop-preserved : goal.loop-preserved
loop-preserved g c = record {
  room = let e = room_step g.T.Item.LEN c.args.count c.loop.counter c.loop-test.true in omega (arith, c.LEN-at.ensures);
  all = push_step _ _ _ _ _ _ _ _ _ _ c.loop-test.true c.LEN-at.ensures c.load.ensures c.in_ok-push.ensures.items c.loop.invariant.all;
}
