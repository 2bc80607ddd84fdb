use Rattle.std.proofs.Common.{◌≡◌, ◌++◌, drop, map}
use Rattle.exif_base.specs.Orders.{number_of}
use Rattle.exif_grow.specs.Alike.{value_cleared}
use Rattle.exif_grow.proofs.alike.cleared.Given as goal

-- the entries that are left add what all of them do
abbrev pub invariant-loop-other : goal.invariant-loop-other
invariant-loop-other l =
    l.patches.items
    ++ map (value_cleared (number_of l.order) l.bytes) (drop l.other-index l.entries)
    ≡ map (value_cleared (number_of l.order) l.bytes) l.entries
