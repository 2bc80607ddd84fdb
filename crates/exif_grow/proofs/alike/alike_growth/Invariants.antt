use Rattle.std.proofs.Common.{◌≡◌, ◌++◌, drop, map}
use Rattle.exif_base.specs.Orders.{number_of}
use Rattle.exif_grow.specs.Alike.{alike_patches, entry_copied}
use Rattle.exif_grow.proofs.alike.alike_growth.Given as goal

-- the entries that are left add what all of them do
abbrev pub invariant-loop-other : goal.invariant-loop-other
invariant-loop-other l =
    l.patches.items ++ map (entry_copied l.bytes l.entry) (drop l.other-index l.entries)
    ≡ alike_patches l.fn.clear (number_of l.fn.order) l.bytes l.entry l.entries
