use Rattle.std.proofs.Common.{◌≡◌, ◌++◌, drop}
use Rattle.exif_grow.specs.Alike.{beside, entries_named}
use Rattle.exif_grow.proofs.alike.entries_named.Given as goal

-- the fields that are left add what all of them do
abbrev pub invariant-loop-i : goal.invariant-loop-i
invariant-loop-i l =
    l.named.items
    ++ entries_named l.tag l.ifd_num (beside (drop l.i l.fields) (drop l.i l.entries))
    ≡ entries_named l.tag l.ifd_num (beside l.fields l.entries)
