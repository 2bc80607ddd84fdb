-- A field put into a directory that has none of its name: the directory is appended anew with it,
-- and the offset of the old one becomes that of the new one (TIFF 6.0, section 2).
use Rattle.std.specs.Prelude.{ℕ, ◌+◌, ◌-◌, ◌*◌, ◌^◌, ◌&&◌, not, nat_lt, Bool, true, false, List, [], ◌∷◌, ◌++◌, length, Result, Ok, Err, if◌then◌else◌}
use Rattle.std.specs.Bool.{beq}
use Rattle.std.specs.Cmp.Lexicographic.{pointwise}
use Rattle.exif_base.specs.Bytes.{bytes_at}
use Rattle.exif_base.specs.Orders.{number_of, order_named}
use Rattle.exif_base.specs.declared.endian.Order.{Order}
use Rattle.exif_text.specs.declared.ifd.In.{In}
use Rattle.exif_types.specs.FieldEq.{field_eq}
use Rattle.exif_types.specs.Lookup.{is_named}
use Rattle.exif_types.specs.ValueTypes.{count_of}
use Rattle.exif_types.specs.declared.tag.Tag.{Tag}
use Rattle.exif_types.specs.declared.value.Value.{Value}
use Rattle.exif_types.specs.declared.field.Field.{Field}
use Rattle.exif_layout.specs.Encoding.{encode, moved_to, spelled}
use Rattle.exif_layout.specs.Offsets.{even}
use Rattle.exif_layout.specs.Refused.{is_unknown}
use Rattle.exif_edit_base.specs.Causes.{Cause, full_directory, no_directory, of_data, or_cause, offset_named, shared, too_long, unknown_type, unless, ◌>>=◌}
use Rattle.exif_edit_base.specs.Readings.{Read, fault_eq, reading}
use Rattle.exif_edit_base.specs.declared.patch.Patch.{Patch}
use Rattle.exif_edit_base.specs.declared.patch.Span.{Span}
use Rattle.exif_edit_base.specs.Rereading.{without_entry_offsets}
use Rattle.exif_edit.specs.Removing.{without_named}
use Rattle.exif_edit.specs.Setting.{entry_bytes, is_small, names_offsets, set_offset}
use Rattle.exif_grow.specs.Appending.{span_cleared}
use Rattle.exif_grow.specs.Directories.{directory_named, leading_in}
use Rattle.exif_grow.specs.Growing.{Added, aligned, grown}
use Rattle.exif_grow.specs.declared.directories.Directory.{Directory}

-- ---- the new directory

-- an entry of the tag n, with a value whose bytes are at an offset
abbrev pub new_entry : Order → ℕ → Value → ℕ → List ℕ
new_entry order n value offset =
    spelled order 2 n ++ entry_bytes order value offset (encode order value)

-- the bytes of a directory with one more entry, after j of its own
abbrev pub directory_bytes : Order → List ℕ → Directory → ℕ → List ℕ → List ℕ
directory_bytes order bytes d j entry =
    spelled order 2 (d.count + 1)
    ++ (bytes_at (12 * j) bytes (d.offset + 2)
    ++ (entry ++ bytes_at (12 * (d.count - j) + 4) bytes (d.offset + 2 + 12 * j)))

-- the offset of what follows a directory with one more entry that is appended to data of a length
abbrev pub value_offset : Directory → ℕ → ℕ
value_offset d n = even n + 12 * d.count + 18

-- the offset of its entry that is after j others
abbrev pub entry_offset : ℕ → ℕ → ℕ
entry_offset j n = even n + 2 + 12 * j

-- the bytes of a directory
abbrev pub span_of : Directory → Span
span_of d = record { offset = d.offset; len = 12 * d.count + 6 }

-- the offset of a directory becomes that of one that is appended to data of a length
abbrev pub slot_patch : Order → Directory → ℕ → Patch
slot_patch order d n = record { offset = d.slot; bytes = spelled order 4 (even n) }

-- the bytes of a value, unless its entry holds them
abbrev pub outer_bytes : List ℕ → List ℕ
outer_bytes encoded = if is_small encoded then [] else encoded

-- what is added for a field in a directory
abbrev pub field_added : Bool → Order → ℕ → Value → List ℕ → Directory → Added
field_added clear order n value bytes d =
    let total = length bytes in
    let entry = new_entry order n value (value_offset d total) in
    record {
      patches = span_cleared clear (span_of d) ++ slot_patch order d total ∷ [];
      tail = aligned total
          (directory_bytes order bytes d (leading_in (number_of order) bytes n d) entry
          ++ outer_bytes (encode order value));
    }

-- whether a directory can be appended anew to data of n bytes, with a value at this offset
abbrev pub directory_fault : Order → Value → Directory → ℕ → ℕ → Result (Unit {0}) Cause
directory_fault order value d offset n = do
  a ← unless (nat_lt n (d.slot + 4)) shared
  b ← unless (nat_lt n (d.offset + 12 * d.count + 6)) shared
  c ← unless (nat_lt 65534 d.count) full_directory
  e ← unless (nat_lt (2 ^ 32 - 1) (count_of value)) too_long
  unless (nat_lt (2 ^ 32 - 1) (offset + length (encode order value))) too_long

-- ---- what is read then

-- whether a field is the only one of its name among fields, where it was seen before or not
abbrev pub is_only : Tag → In → Field → Bool → List Field → Bool
is_only tag k field seen [] = seen
is_only tag k field seen (f ∷ fs) =
    if is_named tag k f then not seen && (field_eq f field && is_only tag k field true fs)
    else is_only tag k field seen fs

-- whether what was read is what was wanted, with one more field; the offsets of small values are
-- those of their entries, and are not compared
abbrev pub is_with : Tag → In → Field → Read → Read → Bool
is_with tag k field wanted found =
    is_only tag k field false found.fields
    && (beq found.little wanted.little
    && (pointwise field_eq (without_entry_offsets (without_named tag k found.fields)) wanted.fields
    && pointwise fault_eq found.faults wanted.faults))

-- whether data read as wanted, with one more field
abbrev pub reads_with : Tag → In → Field → Read → List ℕ → Bool
reads_with tag k field wanted bytes = elim (reading bytes) [
  | Ok found ↦ is_with tag k field wanted found
  | Err fault ↦ false
]

-- what was read, without the offsets of small values
abbrev pub read_without_offsets : Read → Read
read_without_offsets read = record {
  little = read.little;
  fields = without_entry_offsets read.fields;
  faults = read.faults;
}

-- the first of two with which the data read as wanted, with one more field
abbrev pub first_with : Tag → In → Field → Read → List ℕ → Added → Added → Result Added Cause
first_with tag k field read bytes a b =
    if reads_with tag k field read (grown a bytes) then Ok a
    else (if reads_with tag k field read (grown b bytes) then Ok b else Err shared)

-- ---- the whole

-- the new field, whose entry is after j others
abbrev pub new_field : Order → Tag → In → Value → Directory → ℕ → ℕ → Field
new_field order tag k value d j n = record {
  tag = tag;
  ifd_num = k;
  value = moved_to
      (set_offset (value_offset d n) (entry_offset j n) (encode order value)) value;
}

-- what puts a field into a directory, once the data are read
unfoldable pub inserted_in : Tag → In → Value → List ℕ → Read → Directory → Result Added Cause
inserted_in tag k value bytes read d =
    let order = order_named read.little in
    let n = length bytes in
    let field = new_field order tag k value d (leading_in (number_of order) bytes tag.1 d) n in
    directory_fault order value d (value_offset d n) n
    >>= λ u. first_with tag k field (read_without_offsets read) bytes
    (field_added true order tag.1 value bytes d) (field_added false order tag.1 value bytes d)

-- what puts a field into the directory of its name
unfoldable pub inserted : List ℕ → Tag → In → Value → Result Added Cause
inserted bytes tag k value = do
  read ← of_data (reading bytes)
  d ← or_cause (directory_named (number_of (order_named read.little)) bytes tag.0 k.0)
      no_directory
  inserted_in tag k value bytes read d

-- the same, or why it is refused
unfoldable pub insert_answer : List ℕ → Tag → In → Value → Result Added Cause
insert_answer bytes tag k value = do
  a ← unless (names_offsets tag) offset_named
  b ← unless (is_unknown value) unknown_type
  inserted bytes tag k value
