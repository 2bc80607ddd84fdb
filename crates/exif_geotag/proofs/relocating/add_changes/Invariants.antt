use Rattle.std.proofs.Common.{◌≡◌, ◌+◌, length}
use Rattle.std.specs.Vec.Iter.{into_iter_items}
use Rattle.exif_geotag.proofs.relocating.add_changes.Given as goal

-- one is added for each that is gone
abbrev pub invariant-loop-left : goal.invariant-loop-left
invariant-loop-left l =
    length l.all.items + length (into_iter_items l.left-iterator)
    ≡ length l.fn.all.items + length l.fn.left.items
