use Rattle.std.proofs.Common.{◌≡◌, ℕ, List, [], ◌++◌, map, true}
use Rattle.std.specs.BTreeSet.{contains_text}
use Rattle.exif_rename_commands.specs.Entries.{entry_at}
use Rattle.exif_rename_commands.specs.Gathered.{AddsSidecars}
use Rattle.exif_rename_commands.proofs.gathering.add_sidecars.Given as goal

-- what was found was no file of the run; those that were are
abbrev pub invariant-loop-member : goal.invariant-loop-member
invariant-loop-member l = record {
  found : AddsSidecars (contains_text l.fn.seen) [] l.found.items;
  seen : (q : List ℕ) → contains_text l.fn.seen q ≡ true → contains_text l.seen q ≡ true;
}

abbrev pub invariant-loop-key : goal.invariant-loop-key
invariant-loop-key l = record {
  found : AddsSidecars (contains_text l.fn.seen) [] l.found.items;
  seen : (q : List ℕ) → contains_text l.fn.seen q ≡ true → contains_text l.seen q ≡ true;
}

-- the files, and behind them what was found so far
abbrev pub invariant-loop-sidecar : goal.invariant-loop-sidecar
invariant-loop-sidecar l =
    map entry_at l.members.items ≡ map entry_at l.initial.members.items ++ map entry_at l.yielded
