-- The value of a field replaced by one that is appended to the data (TIFF 6.0, section 2).
use Rattle.std.specs.Prelude.{ℕ, ◌+◌, ◌-◌, ◌^◌, nat_lt, Bool, true, false, List, [], ◌∷◌, ◌++◌, length, Result, if◌then◌else◌}
use Rattle.exif_base.specs.Orders.{number_of, order_named}
use Rattle.exif_base.specs.declared.endian.Order.{Order}
use Rattle.exif_text.specs.declared.ifd.In.{In}
use Rattle.exif_types.specs.ValueTypes.{count_of}
use Rattle.exif_types.specs.declared.tag.Tag.{Tag}
use Rattle.exif_types.specs.declared.value.Value.{Value}
use Rattle.exif_layout.specs.Encoding.{encode, moved_to}
use Rattle.exif_layout.specs.Offsets.{even}
use Rattle.exif_layout.specs.Refused.{is_unknown}
use Rattle.exif_edit_base.specs.Causes.{Cause, offset_named, shared, too_long, unknown_type, unless, ◌>>=◌}
use Rattle.exif_edit_base.specs.Finding.{find_answer, replaced}
use Rattle.exif_edit_base.specs.Patches.{zeros_over}
use Rattle.exif_edit_base.specs.Readings.{Read}
use Rattle.exif_edit_base.specs.declared.patch.Patch.{Patch}
use Rattle.exif_edit_base.specs.declared.patch.Span.{Span}
use Rattle.exif_edit_base.specs.Spans.{value_space}
use Rattle.exif_edit.specs.Setting.{entry_bytes, is_small, names_offsets, set_offset}
use Rattle.exif_grow.specs.Growing.{Added, aligned, first_read}

-- what puts a value, whose bytes are at an offset, into the entry at e
abbrev pub entry_patch : Order → Value → ℕ → ℕ → Patch
entry_patch order value e offset =
    record { offset = e + 2; bytes = entry_bytes order value offset (encode order value) }

-- what follows data of a length: the bytes of a value, unless its entry holds them
abbrev pub value_tail : ℕ → List ℕ → List ℕ
value_tail n encoded = if is_small encoded then [] else aligned n encoded

-- what is put over a span that is no longer needed: zeros, or nothing
abbrev pub span_cleared : Bool → Span → List Patch
span_cleared true span = zeros_over span ∷ []
span_cleared false span = []

-- what appends a value to data of a length, for the entry at e, whose old value has this span
abbrev pub value_added : Bool → Order → Value → ℕ → Span → ℕ → Added
value_added clear order value e span n = record {
  patches = span_cleared clear span ++ entry_patch order value e (even n) ∷ [];
  tail = value_tail n (encode order value);
}

-- whether a value can be appended for the entry at e, whose old value has this span
abbrev pub append_fault : Order → Value → ℕ → Span → ℕ → Result (Unit {0}) Cause
append_fault order value e span n = do
  a ← unless (nat_lt n (e + 12)) shared
  b ← unless (nat_lt n (span.offset + span.len)) shared
  c ← unless (nat_lt (2 ^ 32 - 1) (count_of value)) too_long
  unless (nat_lt (2 ^ 32 - 1) (even n + length (encode order value))) too_long

-- where the value of the entry at e is stored then: in the entry, or at the end of the old data
abbrev pub appended_offset : Order → Value → ℕ → ℕ → ℕ
appended_offset order value e n = set_offset (even n) e (encode order value)

-- what reading the new data must give
abbrev pub expected_appended : Tag → In → Value → ℕ → List ℕ → Read → Read
expected_appended tag k value e bytes read = record {
  little = read.little;
  fields = replaced tag k
      (moved_to (appended_offset (order_named read.little) value e (length bytes)) value)
      read.fields;
  faults = read.faults;
}

-- what replaces the value of the entry at e, once the data are read
unfoldable pub appended_at : Tag → In → Value → ℕ → List ℕ → Read → Result Added Cause
appended_at tag k value e bytes read =
    let order = order_named read.little in
    let n = length bytes in
    let span = value_space (number_of order) bytes e in
    append_fault order value e span n
    >>= λ u. first_read (expected_appended tag k value e bytes read) bytes
    (value_added true order value e span n) (value_added false order value e span n)

-- what replaces the last value of a name
unfoldable pub appended : List ℕ → Tag → In → Value → Result Added Cause
appended bytes tag k value = do
  found ← find_answer bytes tag k
  appended_at tag k value found.1 bytes found.0

-- the same, or why it is refused
unfoldable pub append_answer : List ℕ → Tag → In → Value → Result Added Cause
append_answer bytes tag k value = do
  a ← unless (names_offsets tag) offset_named
  b ← unless (is_unknown value) unknown_type
  appended bytes tag k value
