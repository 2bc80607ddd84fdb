-- Dates that a picture may have beside those of its Exif data: in XMP packets and IPTC data.
use Rattle.std.specs.Prelude.{ℕ, ◌==◌, ◌&&◌, ◌||◌, Bool, true, false, List, [], ◌∷◌, ◌++◌, Option, Some, None, Result, Ok, Err, if◌then◌else◌}
use Rattle.std.specs.List.{list_any}
use Rattle.exif_assign.specs.declared.assignment.Assignment.{Assignment}
use Rattle.exif_change.specs.Changed.{Change, other_dates}
use Rattle.exif_change.specs.Reading.{Contents, file_contents}
use Rattle.exif_change.specs.Refusals.{Reason}
use Rattle.exif_inventory.specs.declared.kind.Kind.{Kind}
use Rattle.exif_inventory.specs.declared.kind.Kind.TheVariants as kind
use Rattle.exif_inventory.specs.declared.part.Part.{Part}
use Rattle.exif_privacy.specs.Files.{parts_of}
use Rattle.exif_table.specs.declared.context.Context.{Context}
use Rattle.exif_table.specs.declared.context.Context.TheVariants as context
use Rattle.exif_types.specs.Refusals.{Refusal}
use Rattle.exif_types.specs.declared.field.Field.{Field}
use Rattle.exif_types.specs.declared.tag.Tag.{Tag}

-- whether parts of this kind may hold dates: XMP (ISO 16684-1, 8.4, xmp:CreateDate and others),
-- IPTC data (IIM 4.2, 2:55 and others)
abbrev pub is_dated_kind : Kind → Bool
is_dated_kind kind.Xmp = true
is_dated_kind kind.ExtendedXmp = true
is_dated_kind kind.PhotoshopXmp = true
is_dated_kind kind.Iptc = true
is_dated_kind _ = false

abbrev pub is_dated_part : Part → Bool
is_dated_part part = is_dated_kind part.kind

-- whether one of the parts of a file does
abbrev pub has_dated_part : List ℕ → Bool
has_dated_part file = elim (parts_of file) [
  | Some parts ↦ list_any is_dated_part parts
  | None ↦ false
]

-- whether a field of TIFF data is XMP (700), IPTC data (33723) or the resources of Photoshop (34377)
abbrev pub is_dated_tag : Tag → Bool
is_dated_tag tag = elim tag.0 [
  | context.Tiff ↦ (tag.1 == 700) || ((tag.1 == 33723) || (tag.1 == 34377))
  | context.Exif ↦ false
  | context.Gps ↦ false
  | context.Interop ↦ false
]

abbrev pub is_dated_field : Field → Bool
is_dated_field f = is_dated_tag f.tag

-- whether one of the fields that were read does
abbrev pub has_dated_field : Result Contents Refusal → Bool
has_dated_field (Ok contents) = list_any is_dated_field contents.fields
has_dated_field (Err refusal) = false

-- whether a file may have such dates
abbrev pub has_other_dates : List ℕ → Bool
has_other_dates file = has_dated_part file || has_dated_field (file_contents file)

-- a change of dates, where this file had others, too
abbrev pub with_other_dates : Bool → Result Change Reason → Result Change Reason
with_other_dates true (Ok change) =
    Ok (record { file = change.file; undone = change.undone ++ Some other_dates ∷ [] })
with_other_dates false (Ok change) = Ok change
with_other_dates others (Err why) = Err why

-- whether a tag is one of the dates: DateTime (306), DateTimeOriginal (36867), DateTimeDigitized
-- (36868)
abbrev pub is_date : Tag → Bool
is_date tag = elim tag.0 [
  | context.Tiff ↦ tag.1 == 306
  | context.Exif ↦ (tag.1 == 36867) || (tag.1 == 36868)
  | context.Gps ↦ false
  | context.Interop ↦ false
]

-- whether a value is assigned to one, and whether a field is one
abbrev pub assigns_date : Assignment → Bool
assigns_date assignment = is_date assignment.tag

abbrev pub is_date_field : Field → Bool
is_date_field f = is_date f.tag

-- whether dates stay in a file in which dates are set, or none
abbrev pub leaves_dates : Bool → List ℕ → Bool
leaves_dates sets_date file = sets_date && has_other_dates file
