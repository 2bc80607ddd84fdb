use Rattle.std.proofs.Common.{◌≡◌, ◌++◌, drop}
use Rattle.exif_rename_commands.specs.Present.{differing_of}
use Rattle.exif_rename_commands.proofs.present.differing_of.Given as goal

-- those that differ so far, and those of the files that are left, are all
abbrev pub invariant-loop-presence : goal.invariant-loop-presence
invariant-loop-presence l =
    l.differing.items ++ differing_of l.left.rest.items (drop l.presence-index l.fn.found.items)
    ≡ differing_of l.fn.moves.items l.fn.found.items
