-- Exif data without their locations.
use Rattle.std.specs.Prelude.{ℕ, ◌==◌, not, Bool, false, List, [], ◌∷◌, ◌++◌, length, map, Option, None, Some, Ok, Err, if◌then◌else◌, ◌&&◌}
use Rattle.std.specs.List.{list_any}
use Rattle.exif_base.specs.Orders.{number_of, order_named}
use Rattle.exif_types.specs.declared.field.Field.{Field}
use Rattle.exif_tiff.specs.declared.offset.EntryOffset.{EntryOffset}
use Rattle.exif_edit_base.specs.Causes.{Cause, shared}
use Rattle.exif_edit_base.specs.EntryLimit.{within_limit}
use Rattle.exif_edit_base.specs.GpsOffsets.{Left, leftovers}
use Rattle.exif_edit_base.specs.Locations.{located}
use Rattle.exif_edit_base.specs.Readings.{Read, reading, reads_as}
use Rattle.exif_edit_base.specs.Walked.{entry_of}
use Rattle.exif_edit.specs.Edits.{limited_edit}
use Rattle.exif_edit.specs.declared.edits.Edit.TheVariants.{EraseGps}
use Rattle.exif_locations.specs.declared.unread.Unread.{Unread}
use Rattle.exif_data_locations.specs.FieldRegions.{all_regions}
use Rattle.exif_data_locations.specs.Regions.{regions_erased}
use Rattle.exif_data_locations.specs.Streams.{stores_streams}
use Rattle.exif_data_locations.specs.Texts.{texts_noted}
use Rattle.exif_data_locations.specs.Wanted.{wanted}
use Rattle.exif_data_locations.specs.declared.region.Region.{Region}
use Rattle.exif_data_locations.specs.declared.reason.Reason.{Reason}
use Rattle.exif_data_locations.specs.declared.reason.Reason.TheVariants.{NotChanged, GpsShared, GpsNotFollowed, NotReadWhole, SubIfdsNotRead, MakerNote, Shared, StreamsNotSearched}

-- how many entries are read at most
abbrev pub entry_limit : Option ℕ
entry_limit = Some 1_000_000

-- reasons, and one more if a test holds
abbrev pub noted_if : Bool → Reason → List Reason → List Reason
noted_if test why whys = if test then whys ++ why ∷ [] else whys

-- ---- GPS data

-- whether no GPS pointer is left that is not followed
abbrev pub is_none_left : Left → Bool
is_none_left left = (length left.pointers == 0) && not left.meets_limit

-- whether all GPS pointers are followed
abbrev pub is_followed : List ℕ → Bool
is_followed bytes = elim (leftovers bytes) [ Ok left ↦ is_none_left left | Err cause ↦ false ]

-- why GPS data are not erased
abbrev pub gps_refused : Cause → Reason
gps_refused shared = GpsShared
gps_refused cause = NotChanged

-- data without their GPS data, if these can be erased
abbrev pub gps_erased : List ℕ → List ℕ × List Reason
gps_erased bytes = elim (limited_edit None EraseGps bytes) [
  | Ok new ↦ (new, noted_if (not (is_followed new)) GpsNotFollowed [])
  | Err cause ↦ (bytes, gps_refused cause ∷ [])
]

-- ---- fields

-- whether a field has this number in its tag
abbrev pub has_number : ℕ → List Field → Bool
has_number number fields = list_any (λ (f : Field). f.tag.1 == number) fields

-- reasons, and those why what was not read, or is not judged, may be a location: faults, SubIFDs
-- (TIFF/EP), maker notes (Exif 2.32, 4.6.5), a picture in JPEG streams, and texts
abbrev pub unread_noted : Read → List Reason → List Reason
unread_noted read whys =
    texts_noted read.fields
    (noted_if (stores_streams read.fields) StreamsNotSearched
    (noted_if (has_number 37500 read.fields) MakerNote
    (noted_if (has_number 330 read.fields) SubIfdsNotRead
    (noted_if (not (length read.faults == 0)) NotReadWhole whys))))

-- new data, if they are read as it is wanted, or the old ones
abbrev pub if_read : Read → List EntryOffset → List ℕ → List ℕ × List Reason → List ℕ × List Reason
if_read read entries old (new, whys) =
    if reads_as new (wanted read entries old new) then (new, whys) else (old, whys ++ Shared ∷ [])

-- data without the locations of regions
abbrev pub checked : Unread → Read → List EntryOffset → List ℕ → List Region → List Reason
    → List ℕ × List Reason
checked unread read entries bytes [] whys = (bytes, whys)
checked unread read entries bytes (r ∷ regions) whys =
    if_read read entries bytes (regions_erased unread (r ∷ regions) (bytes, whys))

-- data that are read so, without the locations of their fields
abbrev pub read_erased : Unread → Read → List EntryOffset → List ℕ → List Reason → List ℕ × List Reason
read_erased unread read entries bytes whys =
    checked unread read entries bytes
    (all_regions (number_of (order_named read.little)) bytes read.fields entries)
    (unread_noted read whys)

-- data without the locations of their fields
abbrev pub fields_erased : Unread → List ℕ × List Reason → List ℕ × List Reason
fields_erased unread (bytes, whys) = elim (reading bytes) [
  | Ok read ↦ read_erased unread read (map entry_of (located bytes)) bytes whys
  | Err fault ↦ (bytes, whys)
]

-- ---- all

-- Exif data without their own locations, and why there may still be one, whatever their thumbnail
-- holds; data with too many entries stay
abbrev pub own_erased : Unread → List ℕ → List ℕ × List Reason
own_erased unread bytes = elim (within_limit entry_limit bytes) [
  | Ok _ ↦ fields_erased unread (gps_erased bytes)
  | Err cause ↦ (bytes, NotChanged ∷ [])
]
