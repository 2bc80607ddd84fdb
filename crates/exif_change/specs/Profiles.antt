-- Whether a HEIF, AVIF or TIFF file has a colour profile.
use Rattle.std.specs.Prelude.{ℕ, ◌==◌, ◌&&◌, ◌||◌, Bool, true, false, List, [], ◌∷◌, take, codes, Option, Some, Ok, Err}
use Rattle.std.specs.List.{list_any}
use Rattle.std.specs.Str.{bytes_eq}
use Rattle.exif_containers.specs.Container.{format_in}
use Rattle.exif_containers.specs.declared.container.Format.{Format}
use Rattle.exif_containers.specs.declared.container.Format.TheVariants.{Heif, Tiff}
use Rattle.exif_edit_base.specs.EntryLimit.{within_limit}
use Rattle.exif_edit_base.specs.Readings.{reading}
use Rattle.exif_table.specs.declared.context.Context.{Context}
use Rattle.exif_table.specs.declared.context.Context.TheVariants as context
use Rattle.exif_types.specs.declared.field.Field.{Field}

-- bytes go on with the name of a box of colours, and a profile in it (ISO/IEC 14496-12, 12.1.5)
abbrev pub begins_color : List ℕ → Bool
begins_color bytes =
    bytes_eq (take 8 bytes) (codes "colrprof") || bytes_eq (take 8 bytes) (codes "colrrICC")

-- a HEIF file has such bytes
abbrev pub has_color_box : List ℕ → Bool
has_color_box [] = false
has_color_box (b ∷ bytes) = begins_color (b ∷ bytes) || has_color_box bytes

-- whether fields of this directory are those of a TIFF file
abbrev pub is_tiff_context : Context → Bool
is_tiff_context context.Tiff = true
is_tiff_context _ = false

-- whether a field is a colour profile: InterColorProfile (TIFF/EP, 5.2.51)
abbrev pub is_color_field : Field → Bool
is_color_field f = is_tiff_context f.tag.0 && (f.tag.1 == 34675)

-- whether one of the fields that are read of a TIFF file is
abbrev pub read_color_field : List ℕ → Bool
read_color_field file = elim (reading file) [
  | Ok read ↦ list_any is_color_field read.fields
  | Err fault ↦ false
]

-- the same, if it does not have too many entries
abbrev pub has_color_field : List ℕ → Bool
has_color_field file = elim (within_limit (Some 1_000_000) file) [
  | Ok within ↦ read_color_field file
  | Err cause ↦ false
]

-- whether a file of this format has a colour profile
abbrev pub profile_by : Option Format → List ℕ → Bool
profile_by (Some Heif) file = has_color_box file
profile_by (Some Tiff) file = has_color_field file
profile_by format file = false

-- whether a file is a HEIF, AVIF or TIFF file with a colour profile
abbrev pub format_profile : List ℕ → Bool
format_profile file = profile_by (format_in file) file
