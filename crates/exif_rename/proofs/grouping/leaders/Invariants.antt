use Rattle.std.proofs.Common.{◌≡◌, ◌++◌, ℕ, List, drop, map, take}
use Rattle.std.specs.BTreeMap.{get_by_text}
use Rattle.std.specs.Option.{unwrap_or}
use Rattle.std.specs.String.{string_bytes}
use Rattle.exif_rename.specs.Grouped.{first_index, leaders}
use Rattle.exif_rename.proofs.grouping.leaders.Given as goal

abbrev pub invariant-loop-index : goal.invariant-loop-index
invariant-loop-index l = record {
  first : (q : List ℕ) → get_by_text l.first q ≡ first_index 0 (take l.index (map string_bytes l.stems)) q;
  same : leaders (map string_bytes l.stems)
      ≡ l.numbers.items ++ map (λ stem. unwrap_or (first_index 0 (map string_bytes l.stems) stem) 0) (drop l.index (map string_bytes l.stems));
}
