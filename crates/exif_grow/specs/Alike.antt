-- All fields of a name made like the last one: directories may hold a tag more than once (TIFF 6.0,
-- section 2, has each tag once), and programs differ in which of the entries they read.
use Rattle.std.specs.Prelude.{ℕ, nat_lt, Bool, true, false, List, [], ◌∷◌, ◌++◌, length, map, Result, Ok, if◌then◌else◌}
use Rattle.exif_base.specs.Bytes.{Reading, bytes_at}
use Rattle.exif_base.specs.Orders.{number_of, order_named}
use Rattle.exif_text.specs.declared.ifd.In.{In}
use Rattle.exif_types.specs.Lookup.{is_named}
use Rattle.exif_types.specs.declared.field.Field.{Field}
use Rattle.exif_types.specs.declared.tag.Tag.{Tag}
use Rattle.exif_types.specs.declared.value.Value.{Value}
use Rattle.exif_tiff.specs.declared.offset.EntryOffset.{EntryOffset}
use Rattle.exif_edit_base.specs.Causes.{Cause, no_field, of_data, or_cause, ◌>>=◌}
use Rattle.exif_edit_base.specs.Finding.{last_located, with_value}
use Rattle.exif_edit_base.specs.Locations.{Located, located}
use Rattle.exif_edit_base.specs.Patches.{zeros_over}
use Rattle.exif_edit_base.specs.Readings.{Read, reading}
use Rattle.exif_edit_base.specs.Rereading.{value_at_entry}
use Rattle.exif_edit_base.specs.Spans.{value_span}
use Rattle.exif_edit_base.specs.declared.patch.Patch.{Patch}
use Rattle.exif_grow.specs.Growing.{first_read, grown, in_place}

-- ---- the fields of a name

-- fields beside the offsets of their entries
abbrev pub beside : List Field → List EntryOffset → List Located
beside (f ∷ fs) (p ∷ ps) =
    record { field = f; entry = p.entry; directory = p.directory } ∷ beside fs ps
beside _ _ = []

-- the entries of the fields of a name
abbrev pub entries_named : Tag → In → List Located → List ℕ
entries_named tag k [] = []
entries_named tag k (l ∷ ls) =
    if is_named tag k l.field then l.entry ∷ entries_named tag k ls else entries_named tag k ls

-- a field, which has this value if it has the name
abbrev pub field_alike : Tag → In → Value → Located → Field
field_alike tag k value l =
    if is_named tag k l.field then with_value (value_at_entry l.entry value) l.field else l.field

-- the fields, each one of a name with this value
abbrev pub fields_alike : Tag → In → Value → List Located → List Field
fields_alike tag k value ls = map (field_alike tag k value) ls

-- ---- what makes them alike

-- what puts the entry at e in the place of another one
abbrev pub entry_copied : List ℕ → ℕ → ℕ → Patch
entry_copied bytes e other = record { offset = other; bytes = bytes_at 12 bytes e }

-- what leaves the value of the entry at e as it is, where it is outside of the entry
abbrev pub value_kept : Reading → List ℕ → ℕ → Patch
value_kept number bytes e =
    let s = value_span number bytes e in
    record { offset = s.offset; bytes = bytes_at s.len bytes s.offset }

-- zeros over the value of the entry at e, where it is outside of the entry
abbrev pub value_cleared : Reading → List ℕ → ℕ → Patch
value_cleared number bytes e = zeros_over (value_span number bytes e)

-- zeros over the values of entries, but for that of the entry at e, or nothing
abbrev pub values_cleared : Bool → Reading → List ℕ → ℕ → List ℕ → List Patch
values_cleared true number bytes e entries =
    map (value_cleared number bytes) entries ++ value_kept number bytes e ∷ []
values_cleared false number bytes e entries = []

-- what makes entries like the one at e
abbrev pub alike_patches : Bool → Reading → List ℕ → ℕ → List ℕ → List Patch
alike_patches clear number bytes e entries =
    values_cleared clear number bytes e entries ++ map (entry_copied bytes e) entries

-- ---- the whole

-- what reading the new data must give
abbrev pub read_alike : Tag → In → Value → List Located → Read → Read
read_alike tag k value ls read =
    record { little = read.little; fields = fields_alike tag k value ls; faults = read.faults }

-- the data with entries like the one at e, if they are read as wanted then
unfoldable pub entries_alike : Read → ℕ → List ℕ → List ℕ → Result (List ℕ) Cause
entries_alike wanted e entries bytes =
    let number = number_of (order_named wanted.little) in
    first_read wanted bytes (in_place (alike_patches true number bytes e entries))
    (in_place (alike_patches false number bytes e entries))
    >>= λ a. Ok (grown a bytes)

-- the data with each field of a name like the last one, where there are more than one
abbrev pub alike_at : List ℕ → Tag → In → Read → Located → Result (List ℕ) Cause
alike_at bytes tag k read at =
    let entries = entries_named tag k (located bytes) in
    if nat_lt (length entries) 2 then Ok bytes
    else entries_alike (read_alike tag k at.field.value (located bytes) read) at.entry entries bytes

-- the same, once the data are read
unfoldable pub made_alike : List ℕ → Tag → In → Result (List ℕ) Cause
made_alike bytes tag k = do
  read ← of_data (reading bytes)
  at ← or_cause (last_located tag k (located bytes)) no_field
  alike_at bytes tag k read at
