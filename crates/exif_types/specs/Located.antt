-- Fields by directory, tag and offset.
use Rattle.std.specs.Prelude.{ℕ, ◌+◌, ◌*◌, ◌-◌, ◌^◌, ◌<◌, ◌≤◌, List, [], ◌∷◌, length, All}
use Rattle.std.specs.List.Sorted.{IsPermutation, IsNonDecreasing, IsPartitionPoint}
use Rattle.exif_table.specs.Contexts.{context_rank}
use Rattle.exif_text.specs.declared.ifd.In.{In}
use Rattle.exif_types.specs.declared.tag.Tag.{Tag}
use Rattle.exif_types.specs.declared.field.Field.{Field}
use Rattle.exif_types.specs.declared.index.FieldIndex.{FieldIndex}

-- what a field is looked up by, as one number: its directory, then its context, then its tag's
-- number
abbrev pub key_of : Tag → In → ℕ
key_of tag ifd_num = (ifd_num.0 * 4 + context_rank tag.0) * 2 ^ 16 + tag.1

-- a field as one number: its key, then its offset
abbrev pub entry_of : ℕ → ℕ → ℕ
entry_of key offset = key * 2 ^ 43 + offset

-- the greatest entry of a key
abbrev pub greatest_of : ℕ → ℕ
greatest_of key = entry_of key (2 ^ 43 - 1)

-- the numbers up to a bound end here, and all behind are above it
abbrev pub EndsUpTo : ℕ → List ℕ → ℕ → Type 0
EndsUpTo bound numbers end = IsPartitionPoint (λ n. n ≤ bound) (λ n. bound < n) numbers end

-- the entries of fields, of which the first is at this offset
abbrev pub entries_from : ℕ → List Field → List ℕ
entries_from offset [] = []
entries_from offset (field ∷ fields) =
    entry_of (key_of field.tag field.ifd_num) offset ∷ entries_from (offset + 1) fields

-- an index has the entries of the fields, and they ascend
pub record Indexes (index : FieldIndex) (fields : List Field) : Type 0 where
  pub entries : IsPermutation (entries_from 0 fields) index.entries.items
  pub ascending : IsNonDecreasing index.entries.items
  -- each directory is one of the first eight, each tag's number has 16 bits, each offset 43
  pub directories : All (λ field. field.ifd_num.0 < 8) fields
  pub numbers : All (λ field. field.tag.1 < 2 ^ 16) fields
  pub positions : length fields ≤ 2 ^ 43
