-- GPS data that are a version alone: GPSVersionID (0x0000) names no location (Exif 2.32, 4.6.6).
use Rattle.std.specs.Prelude.{ℕ, ◌==◌, ◌&&◌, not, Bool, true, false, List, length, Option, None, Some, Ok, Err, if◌then◌else◌}
use Rattle.std.specs.List.{list_any}
use Rattle.exif_table.specs.declared.context.Context.{Context}
use Rattle.exif_table.specs.declared.context.Context.TheVariants as context
use Rattle.exif_types.specs.declared.field.Field.{Field}
use Rattle.exif_edit_base.specs.Readings.{Read, reading}
use Rattle.exif_data_locations.specs.Erasing.{gps_erased}

-- whether fields of this directory are GPS data
abbrev pub is_gps : Context → Bool
is_gps context.Tiff = false
is_gps context.Exif = false
is_gps context.Gps = true
is_gps context.Interop = false

-- whether a field of GPS data is not their version
abbrev pub may_locate : Field → Bool
may_locate f = is_gps f.tag.0 && not (f.tag.1 == 0)

-- whether all was read, and GPS data are a version alone, if there are some
abbrev pub has_version_alone : Read → Bool
has_version_alone read = (length read.faults == 0) && not (list_any may_locate read.fields)

-- data without the version, if their GPS data are no more
abbrev pub version_erased : List ℕ → Option (List ℕ)
version_erased bytes = elim (reading bytes) [
  | Ok read ↦ if has_version_alone read then Some (gps_erased bytes).0 else None
  | Err fault ↦ None
]
