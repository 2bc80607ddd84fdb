use Rattle.std.proofs.Common.{◌≡◌, ◌<◌, ◌^◌, take}
use Rattle.std.specs.Prelude.{All}
use Rattle.exif_types.specs.Located.{entries_from}
use Rattle.exif_types.proofs.index.FieldIndex.of.Given as goal

-- the entries of the fields so far
abbrev pub invariant-loop-position : goal.invariant-loop-position
invariant-loop-position l = record {
  entries : l.entries.items ≡ entries_from 0 (take l.position l.fields);
  numbers : All (λ field. field.tag.1 < 2 ^ 16) (take l.position l.fields);
}
