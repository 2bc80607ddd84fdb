-- The regions of Exif data that fields have and that may say a location (TIFF 6.0, section 2).
use Rattle.std.specs.Prelude.{ℕ, ◌+◌, ◌==◌, nat_lt, List, [], ◌∷◌, ◌++◌, length, take, drop, Option, None, Some, if◌then◌else◌}
use Rattle.exif_base.specs.Bytes.{Reading, number_at}
use Rattle.exif_table.specs.declared.context.Context.TheVariants.{Tiff, Exif, Gps, Interop}
use Rattle.exif_text.specs.FieldTypes.{type_of}
use Rattle.exif_text.specs.declared.field_type.FieldType.{FieldType}
use Rattle.exif_types.specs.declared.field.Field.{Field}
use Rattle.exif_types.specs.declared.tag.Tag.{Tag}
use Rattle.exif_tiff.specs.declared.offset.EntryOffset.{EntryOffset}
use Rattle.exif_edit_base.specs.Spans.{nowhere, value_span}
use Rattle.exif_edit_base.specs.declared.patch.Span.{Span}
use Rattle.exif_locations.specs.Words.{is_among}
use Rattle.exif_data_locations.specs.Resources.{resource_regions}
use Rattle.exif_data_locations.specs.TagNumbers.{geo_tiff_tags}
use Rattle.exif_data_locations.specs.declared.field.Holds.{Holds}
use Rattle.exif_data_locations.specs.declared.field.Holds.TheVariants.{One, Resources}
use Rattle.exif_data_locations.specs.declared.region.Region.{Region}
use Rattle.exif_data_locations.specs.declared.region.What.{What}
use Rattle.exif_data_locations.specs.declared.region.What.TheVariants.{Xmp, Iptc, GeoTiff, Residual}
use Rattle.exif_data_locations.specs.declared.reason.Reason.TheVariants.{TypeNotKnown}

-- what the value of a tag with this number holds: an XMP packet (XMP part 3, 1.1.1), IPTC data, the
-- resources of Photoshop (Photoshop File Formats, "Image Resource Blocks") or GeoTIFF
abbrev pub held_by : ℕ → Option Holds
held_by number =
    if number == 700 then Some (One Xmp) else
    (if number == 33723 then Some (One Iptc) else
    (if number == 34377 then Some Resources else
    (if is_among geo_tiff_tags number then Some (One GeoTiff) else None)))

-- the same of a tag: those of the chain
abbrev pub held_in : Tag → Option Holds
held_in tag = elim tag.0 [
  | Tiff ↦ held_by tag.1
  | Exif ↦ None
  | Gps ↦ None
  | Interop ↦ None
]

-- a span as one region
abbrev pub span_region : ℕ → What → Span → Region
span_region tag what span =
    record { tag = tag; offset = span.offset; len = span.len; what = what }

-- the regions of a span of data that holds this
abbrev pub span_regions : ℕ → Holds → Span → List ℕ → List Region
span_regions tag (One what) span bytes = span_region tag what span ∷ []
span_regions tag Resources span bytes =
    resource_regions tag span.offset (take span.len (drop span.offset bytes))

-- none of a span without bytes: the value is in its entry
abbrev pub outside_regions : ℕ → Holds → Span → List ℕ → List Region
outside_regions tag holds span bytes =
    if span.len == 0 then [] else span_regions tag holds span bytes

-- the regions of a value with a type at a span; where the type is not known, none can be named
abbrev pub typed_regions : ℕ → Holds → Option FieldType → Span → List ℕ → List Region
typed_regions tag holds None span bytes =
    span_regions tag (One (Residual (TypeNotKnown tag))) nowhere bytes
typed_regions tag holds (Some type) span bytes = outside_regions tag holds span bytes

-- the regions of the value of the entry at e
abbrev pub value_regions : Reading → List ℕ → ℕ → Holds → ℕ → List Region
value_regions number bytes tag holds e =
    typed_regions tag holds (type_of (number_at number 2 bytes (e + 2)))
    (value_span number bytes e) bytes

-- the regions of a field with this tag, whose entry is at e
abbrev pub held_regions : Reading → List ℕ → ℕ → Option Holds → ℕ → List Region
held_regions number bytes tag None e = []
held_regions number bytes tag (Some holds) e = value_regions number bytes tag holds e

-- the same, if the entry lies in the data
abbrev pub field_regions : Reading → List ℕ → Tag → ℕ → List Region
field_regions number bytes tag e =
    if nat_lt (length bytes) (e + 12) then [] else held_regions number bytes tag.1 (held_in tag) e

-- the regions of fields that have their entries at these offsets
abbrev pub all_regions : Reading → List ℕ → List Field → List EntryOffset → List Region
all_regions number bytes [] entries = []
all_regions number bytes (f ∷ fields) [] = []
all_regions number bytes (f ∷ fields) (e ∷ entries) =
    field_regions number bytes f.tag e.entry ++ all_regions number bytes fields entries
