use Rattle.std.proofs.Common.{◌∙◌, ◌<◌, arith, length, sym}
use Rattle.exif_rename.proofs.Togethers.{all_placed, more, same}
use Rattle.exif_rename.proofs.together.add_places.Goals as goal
use Rattle.exif_rename.proofs.together.add_places.Goals.{then-is_kind+in_ok-push, else-is_kind}

pub loop-index-preserved : goal.loop-index-preserved
loop-index-preserved c =
    let h : c.loop-index.index < length c.args.entries.now = omega arith in
    let g : c.loop-index.index < length c.args.leaders.now = omega arith in
    elim c.if-is_kind.branch [
      | then-is_kind+in_ok-push w ↦
          rw (w.order-is, w.in_ok-push.ensures.items)
          (more c.args.sidecars c.loop-index.index c.args.entries.now c.args.leaders.now c.index-entries-index.result c.loop-index.order.items c.args.order.now.items
          h g (sym c.is_kind.ensures ∙ w.if-is_kind.true) c.loop-index.invariant)
      | else-is_kind w ↦
          rw w.order-is
          (same c.args.sidecars c.loop-index.index c.args.entries.now c.args.leaders.now c.index-entries-index.result c.loop-index.order.items c.args.order.now.items
          h g (sym c.is_kind.ensures ∙ w.if-is_kind.false) c.loop-index.invariant)
    ]

pub returns : goal.returns
returns c =
    all_placed c.args.sidecars c.loop-index.index c.args.entries.now c.args.leaders.now c.loop-index.order.items c.args.order.now.items
    (omega arith) c.loop-index.invariant
