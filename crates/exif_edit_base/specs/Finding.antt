-- The last field of a name.
use Rattle.std.specs.Prelude.{◌≡◌, ℕ, ◌+◌, true, false, List, [], ◌∷◌, All, drop, slice_get, Option, Some, None, Result, Ok, MatchOption, if◌then◌else◌}
use Rattle.std.specs.List.{list_any}
use Rattle.exif_types.specs.Lookup.{is_named}
use Rattle.exif_types.specs.declared.tag.Tag.{Tag}
use Rattle.exif_text.specs.declared.ifd.In.{In}
use Rattle.exif_types.specs.declared.value.Value.{Value}
use Rattle.exif_types.specs.declared.field.Field.{Field}
use Rattle.exif_edit_base.specs.Causes.{Cause, no_field, of_data, or_cause, ◌>>=◌}
use Rattle.exif_edit_base.specs.Locations.{Located, located}
use Rattle.exif_edit_base.specs.Readings.{Read, reading}

-- the last field of a name, with its offset
abbrev pub last_located : Tag → In → List Located → Option Located
last_located tag k [] = None
last_located tag k (l ∷ ls) =
    if list_any (λ (m : Located). is_named tag k m.field) ls then last_located tag k ls
    else (if is_named tag k l.field then Some l else None)

-- a field with another value
abbrev pub with_value : Value → Field → Field
with_value value f = record { tag = f.tag; ifd_num = f.ifd_num; value = value }

-- the fields, the last one of a name with another value
abbrev pub replaced : Tag → In → Value → List Field → List Field
replaced tag k value [] = []
replaced tag k value (f ∷ fs) =
    if list_any (is_named tag k) fs then f ∷ replaced tag k value fs
    else ((if is_named tag k f then with_value value f else f) ∷ fs)

-- the last field of a name is at this index
abbrev pub IsLastAt : Tag → In → List Field → ℕ → Type 0
IsLastAt tag k fields i =
    MatchOption (slice_get fields i) ⊥ (λ f. is_named tag k f ≡ true)
    × All (λ f. is_named tag k f ≡ false) (drop (i + 1) fields)

-- what was read, and the entry of the last field of a name
unfoldable pub find_answer : List ℕ → Tag → In → Result (Read × ℕ) Cause
find_answer bytes tag k = do
  read ← of_data (reading bytes)
  l ← or_cause (last_located tag k (located bytes)) no_field
  Ok (read, l.entry)
