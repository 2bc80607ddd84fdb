-- Edited data read again: whether they give what they must.
use Rattle.std.specs.Prelude.{ℕ, ◌+◌, ◌&&◌, nat_le, Bool, false, List, length, map, Ok, Err, if◌then◌else◌}
use Rattle.std.specs.Bool.{beq}
use Rattle.std.specs.Cmp.Lexicographic.{pointwise}
use Rattle.exif_types.specs.FieldEq.{field_eq}
use Rattle.exif_types.specs.declared.field.Field.{Field}
use Rattle.exif_types.specs.declared.value.Value.{Value}
use Rattle.exif_types.specs.declared.value.Value.TheVariants.{Undefined, Unknown}
use Rattle.exif_edit_base.specs.Finding.{with_value}
use Rattle.exif_edit_base.specs.Readings.{Read, reading}

-- whether the data are read so, with no more faults
abbrev pub clears : List ℕ → Read → Bool
clears bytes read = elim (reading bytes) [
  | Ok found ↦ beq found.little read.little
      && (pointwise field_eq found.fields read.fields
      && nat_le (length found.faults) (length read.faults))
  | Err fault ↦ false
]

-- a value as the entry at e gives it: the offset of one that is in its entry is the entry's
abbrev pub value_at_entry : ℕ → Value → Value
value_at_entry e (Undefined xs offset) = Undefined xs (if nat_le (length xs) 4 then e + 8 else offset)
value_at_entry e (Unknown type count offset) = Unknown type count (e + 8)
value_at_entry e value = value

-- a field with its value as the entry at e gives it
abbrev pub field_at_entry : ℕ → Field → Field
field_at_entry e f = with_value (value_at_entry e f.value) f

-- the fields without the offsets of values that are in entries
abbrev pub without_entry_offsets : List Field → List Field
without_entry_offsets fields = map (field_at_entry 0) fields

-- whether the data are read so, wherever the entries are, with no more faults
abbrev pub still_reads : List ℕ → Read → Bool
still_reads bytes read = elim (reading bytes) [
  | Ok found ↦ beq found.little read.little
      && (pointwise field_eq (without_entry_offsets found.fields) (without_entry_offsets read.fields)
      && nat_le (length found.faults) (length read.faults))
  | Err fault ↦ false
]
