use Rattle.std.proofs.Common.{◌≡◌, map, take}
use Rattle.exif_rename.specs.Grouped.{entry_of}
use Rattle.exif_rename_commands.specs.Entries.{entry_at}
use Rattle.exif_rename_commands.proofs.gathering.entries_of.Given as goal

-- the entries so far are those of the files so far
abbrev pub invariant-loop-member : goal.invariant-loop-member
invariant-loop-member l = map entry_of l.entries.items ≡ map entry_at (take l.member-index l.members)
