use Rattle.std.proofs.lemmas.List.Elements.{All-push, Contains-get_or}
use Rattle.std.specs.Prelude.{Contains}
use Rattle.exif_catalog.proofs.updating.whole_roots.Goals as goal
use Rattle.exif_catalog.proofs.updating.whole_roots.Goals.{then-is_whole+in_ok-push, else-is_whole}

pub loop-root-preserved : goal.loop-root-preserved
loop-root-preserved g c = elim c.if-is_whole.branch [
  | then-is_whole+in_ok-push w ↦ rw (w.whole-is, w.in_ok-push.ensures.items)
      (All-push (Contains c.args.roots.now) _ _ c.loop-root.invariant
      (Contains-get_or c.args.roots.now c.loop-root.root-index _ c.loop-root-test.true))
  | else-is_whole w ↦ rw w.whole-is c.loop-root.invariant
]
