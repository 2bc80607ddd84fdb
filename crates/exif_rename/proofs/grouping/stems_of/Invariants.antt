use Rattle.std.proofs.Common.{◌≡◌, ◌++◌, drop, map}
use Rattle.std.specs.String.{string_bytes}
use Rattle.exif_rename.specs.Grouped.{entry_of, owners_of, stem_in, stems_of}
use Rattle.exif_rename.proofs.grouping.stems_of.Given as goal

abbrev pub invariant-loop-entry : goal.invariant-loop-entry
invariant-loop-entry l =
    stems_of (map entry_of l.entries)
    ≡ map string_bytes l.stems.items ++ map (stem_in (owners_of (map entry_of l.entries))) (map entry_of (drop l.entry-index l.entries))
