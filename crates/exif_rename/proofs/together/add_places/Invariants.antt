use Rattle.std.proofs.Common.{◌≡◌, ◌++◌}
use Rattle.exif_rename.proofs.Togethers.{left}
use Rattle.exif_rename.proofs.together.add_places.Given as goal

-- the places so far, and those that are left
abbrev pub invariant-loop-index : goal.invariant-loop-index
invariant-loop-index l =
    l.order.items ++ left l.sidecars l.index l.entries l.leaders
    ≡ l.initial.order.items ++ left l.sidecars 0 l.entries l.leaders
