-- How data without locations must be read: as before, but for the values that may have changed.
use Rattle.std.specs.Prelude.{ℕ, ◌+◌, nat_lt, Bool, List, [], ◌∷◌, length, Option, None, Some, if◌then◌else◌}
use Rattle.std.specs.Str.{bytes_eq}
use Rattle.exif_base.specs.Bytes.{Reading, bytes_at}
use Rattle.exif_base.specs.Orders.{number_of, order_named}
use Rattle.exif_types.specs.declared.field.Field.{Field}
use Rattle.exif_types.specs.declared.value.Value.{Value}
use Rattle.exif_tiff.specs.Trace.{entry_value}
use Rattle.exif_tiff.specs.declared.offset.EntryOffset.{EntryOffset}
use Rattle.exif_edit_base.specs.Finding.{with_value}
use Rattle.exif_edit_base.specs.Readings.{Read}
use Rattle.exif_data_locations.specs.FieldRegions.{held_in}
use Rattle.exif_data_locations.specs.declared.field.Holds.{Holds}

-- whether the entry at e is as it was: its tag, its type, its count and its offset
abbrev pub same_entry : List ℕ → List ℕ → ℕ → Bool
same_entry old new e = bytes_eq (bytes_at 12 old e) (bytes_at 12 new e)

-- the value of the entry at e in new data, if it is as it was
abbrev pub new_value : Reading → List ℕ → List ℕ → ℕ → Option Value
new_value number old new e =
    if nat_lt (length old) (e + 12) then None else
    (if same_entry old new e then entry_value number new e else None)

-- a field with another value, if there is one
abbrev pub with_new : Option Value → Field → Field
with_new None f = f
with_new (Some value) f = with_value value f

-- a field, with its new value where that may say a location
abbrev pub held_field : Option Holds → Reading → List ℕ → List ℕ → ℕ → Field → Field
held_field None number old new e f = f
held_field (Some holds) number old new e f = with_new (new_value number old new e) f

-- the field whose entry is at e as it must be read
abbrev pub wanted_field : Reading → List ℕ → List ℕ → ℕ → Field → Field
wanted_field number old new e f = held_field (held_in f.tag) number old new e f

-- fields that have their entries at these offsets as they must be read
abbrev pub wanted_fields : Reading → List ℕ → List ℕ → List EntryOffset → List Field → List Field
wanted_fields number old new entries [] = []
wanted_fields number old new [] (f ∷ fields) = f ∷ fields
wanted_fields number old new (e ∷ entries) (f ∷ fields) =
    wanted_field number old new e.entry f ∷ wanted_fields number old new entries fields

-- what new data must be read as: the same order and faults, and these fields
abbrev pub wanted : Read → List EntryOffset → List ℕ → List ℕ → Read
wanted read entries old new = record {
  little = read.little;
  fields = wanted_fields (number_of (order_named read.little)) old new entries read.fields;
  faults = read.faults;
}
