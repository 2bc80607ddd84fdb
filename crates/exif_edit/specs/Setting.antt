-- One value put over another.
use Rattle.std.specs.Prelude.{ℕ, ◌+◌, ◌-◌, ◌*◌, ◌^◌, ◌==◌, max, nat_lt, nat_le, Bool, false, List, [], ◌∷◌, ◌++◌, length, Result, Ok, Err, if◌then◌else◌}
use Rattle.std.specs.List.{list_any}
use Rattle.exif_base.specs.Bytes.{Reading, number_at}
use Rattle.exif_base.specs.Orders.{number_of, order_named}
use Rattle.exif_base.specs.declared.endian.Order.{Order}
use Rattle.exif_table.specs.declared.context.Context.TheVariants.{Tiff, Exif, Gps, Interop}
use Rattle.exif_text.specs.FieldTypes.{type_of, known_length}
use Rattle.exif_text.specs.declared.ifd.In.{In}
use Rattle.exif_types.specs.ValueTypes.{count_of, type_number}
use Rattle.exif_types.specs.declared.tag.Tag.{Tag}
use Rattle.exif_types.specs.declared.value.Value.{Value}
use Rattle.exif_layout.specs.Encoding.{encode, moved_to, spelled}
use Rattle.exif_layout.specs.Refused.{is_unknown}
use Rattle.exif_edit_base.specs.Causes.{Cause, offset_named, shared, too_long, unless, unknown_type, ◌>>=◌}
use Rattle.exif_edit_base.specs.Finding.{find_answer, replaced}
use Rattle.exif_edit_base.specs.Patches.{padded, patched}
use Rattle.exif_edit_base.specs.Readings.{Read, reads_as}
use Rattle.exif_edit_base.specs.Spans.{value_space}
use Rattle.exif_edit_base.specs.declared.patch.Patch.{Patch}
use Rattle.exif_edit_base.specs.declared.patch.Span.{Span}

-- the tags of context Tiff whose values are offsets or lengths of other bytes: strips, free
-- bytes, tiles, child directories, thumbnails and their tables (TIFF 6.0, sections 8, 15, 22 and
-- its index of tags; TIFF/EP, SubIFDs; Exif 2.32, 4.6.3)
abbrev pub offset_tags : List ℕ
offset_tags =
    0x111 ∷ 0x117 ∷ 0x120 ∷ 0x121 ∷ 0x144 ∷ 0x145 ∷ 0x14a ∷ 0x201 ∷ 0x202 ∷ 0x207 ∷ 0x208 ∷ 0x209
    ∷ 0x8769 ∷ 0x8825 ∷ []

-- whether the values of a tag are offsets or lengths of other bytes
abbrev pub names_offsets : Tag → Bool
names_offsets tag = elim tag.0 [
  | Tiff ↦ list_any (λ n. tag.1 == n) offset_tags
  | Exif ↦ tag.1 == 0xa005
  | Gps ↦ false
  | Interop ↦ false
]

-- whether a value of these bytes is in its entry
abbrev pub is_small : List ℕ → Bool
is_small encoded = nat_le (length encoded) 4

-- its offset then
abbrev pub set_offset : ℕ → ℕ → List ℕ → ℕ
set_offset old e encoded = if is_small encoded then e + 8 else old

-- the last four bytes of an entry: those of its value, or their offset
abbrev pub element_bytes : Order → ℕ → List ℕ → List ℕ
element_bytes order offset encoded = if is_small encoded then padded 4 encoded else spelled order 4 offset

-- the 10 bytes behind the tag of an entry
abbrev pub entry_bytes : Order → Value → ℕ → List ℕ → List ℕ
entry_bytes order value offset encoded =
    spelled order 2 (type_number value)
    ++ (spelled order 4 (count_of value) ++ element_bytes order offset encoded)

-- the bytes in the old space
abbrev pub space_bytes : ℕ → List ℕ → List ℕ
space_bytes len encoded = padded len (if is_small encoded then [] else encoded)

-- what is put over the old space, if there is one
abbrev pub space_patches : Span → List ℕ → List Patch
space_patches space encoded =
    if space.len == 0 then []
    else record { offset = space.offset; bytes = space_bytes space.len encoded } ∷ []

-- what puts a value over that of the entry at e, which has this space
abbrev pub value_patches : Order → Value → ℕ → Span → List Patch
value_patches order value e space =
    let encoded = encode order value in
    space_patches space encoded
    ++ record { offset = e + 2; bytes = entry_bytes order value space.offset encoded } ∷ []

-- the same, if the value fits there
abbrev pub answer_in : Order → Value → ℕ → Span → ℕ → Result (List Patch) Cause
answer_in order value e space total = do
  a ← unless (nat_lt total (space.offset + space.len)) shared
  b ← unless (nat_lt (2 ^ 32 - 1) (count_of value)) too_long
  c ← unless (nat_lt (max 4 space.len) (length (encode order value))) too_long
  Ok (value_patches order value e space)

-- the same for the entry at e of data
unfoldable pub value_answer : Order → Value → ℕ → List ℕ → Result (List Patch) Cause
value_answer order value e bytes = do
  a ← unless (nat_lt (length bytes) (e + 12)) shared
  answer_in order value e (value_space (number_of order) bytes e) (length bytes)

-- what reading the edited data must give
abbrev pub expected : Tag → In → Value → ℕ → List ℕ → Read → Read
expected tag k value e bytes read =
    let order = order_named read.little in
    let space = value_space (number_of order) bytes e in
    record {
      little = read.little;
      fields =
          replaced tag k (moved_to (set_offset space.offset e (encode order value)) value) read.fields;
      faults = read.faults;
    }

-- patches, if what they make is read so
abbrev pub checked : Read → List ℕ → List Patch → Result (List Patch) Cause
checked read bytes patches =
    if reads_as (patched patches bytes) read then Ok patches else Err shared

-- the patches of the last value of a name
unfoldable pub checked_patches : List ℕ → Tag → In → Value → Result (List Patch) Cause
checked_patches bytes tag k value = do
  found ← find_answer bytes tag k
  patches ← value_answer (order_named found.0.little) value found.1 bytes
  checked (expected tag k value found.1 bytes found.0) bytes patches

-- what sets the last value of a name, or why that is refused
unfoldable pub set_patches : List ℕ → Tag → In → Value → Result (List Patch) Cause
set_patches bytes tag k value = do
  a ← unless (names_offsets tag) offset_named
  b ← unless (is_unknown value) unknown_type
  checked_patches bytes tag k value

-- the data with it
abbrev pub set_answer : List ℕ → Tag → In → Value → Result (List ℕ) Cause
set_answer bytes tag k value =
    set_patches bytes tag k value >>= λ patches. Ok (patched patches bytes)
