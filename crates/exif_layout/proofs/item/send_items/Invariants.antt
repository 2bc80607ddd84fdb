use Rattle.std.proofs.Common.{take}
use Rattle.std.specs.List.{flat_map}
use Rattle.exif_base.proofs.Sending.{HasSent}
use Rattle.exif_layout.proofs.item.send_items.Given as goal

abbrev pub invariant-loop-item : goal.invariant-loop-item
invariant-loop-item g l =
    HasSent g.W.Sink l.initial.out l.out (flat_map (g.T.Item.spelled l.order) (take l.item-index l.item-items))
