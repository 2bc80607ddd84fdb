use Rattle.std.proofs.Common.{◌≡◌, ℕ, List, drop, map}
use Rattle.std.specs.BTreeSet.{contains_text}
use Rattle.exif_files.specs.Each.{is_among}
use Rattle.exif_rename.specs.Grouped.{entry_of, owners_after, owners_of}
use Rattle.exif_rename.proofs.grouping.owners_of.Given as goal

abbrev pub invariant-loop-entry : goal.invariant-loop-entry
invariant-loop-entry l = (names : List (List ℕ)) × ((q : List ℕ) → contains_text l.owners q ≡ is_among q names)
    × (owners_after names (map entry_of (drop l.entry-index l.entries)) ≡ owners_of (map entry_of l.entries))
