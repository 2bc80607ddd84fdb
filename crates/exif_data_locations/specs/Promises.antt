-- What is read of Exif data without their locations.
use Rattle.std.specs.List.{AllZip}
use Rattle.std.specs.Prelude.{◌≡◌, ◌≤◌, ℕ, List, length, None, Result, Ok, Err}
use Rattle.exif_tiff.specs.declared.fault.Fault.{Fault}
use Rattle.exif_types.specs.declared.field.Field.{Field}
use Rattle.exif_edit_base.specs.Causes.{Cause}
use Rattle.exif_edit_base.specs.EntryLimit.{within_limit}
use Rattle.exif_edit_base.specs.Readings.{Read}
use Rattle.exif_edit.specs.Edits.{limited_edit}
use Rattle.exif_edit.specs.Erasing.{without_gps}
use Rattle.exif_edit.specs.declared.edits.Edit.TheVariants.{EraseGps}
use Rattle.exif_data_locations.specs.Erasing.{entry_limit}
use Rattle.exif_data_locations.specs.FieldRegions.{held_in}

-- a field is as it was, but for the value of a tag that may say a location
abbrev pub IsKept : Field → Field → Type 0
IsKept old new =
    (new.tag ≡ old.tag) × (new.ifd_num ≡ old.ifd_num) × (held_in old.tag ≡ None → new ≡ old)

-- fields but those of GPS data, where these were erased
abbrev pub gps_left : Result (List ℕ) Cause → List Field → List Field
gps_left (Ok new) fields = without_gps fields
gps_left (Err cause) fields = fields

-- the same of data, unless they have too many entries
abbrev pub left_within : Result (Unit {0}) Cause → List ℕ → List Field → List Field
left_within (Ok within) bytes fields = gps_left (limited_edit None EraseGps bytes) fields
left_within (Err cause) bytes fields = fields

-- the fields of data that are left where their locations are erased
abbrev pub fields_left : List ℕ → List Field → List Field
fields_left bytes fields = left_within (within_limit entry_limit bytes) bytes fields

-- new data are read as the old ones: these fields are left, and there are no more faults
pub record IsReadAlike (old : List ℕ) (read found : Read) : Type 0 where
  pub fields : AllZip IsKept (fields_left old read.fields) found.fields
  pub faults : length found.faults ≤ length read.faults

-- the same of what was read, if it was
abbrev pub ReadsAlike : List ℕ → Read → Result Read Fault → Type 0
ReadsAlike old read (Ok found) = IsReadAlike old read found
ReadsAlike old read (Err fault) = ⊥
