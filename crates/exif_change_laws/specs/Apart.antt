-- What follows for edits where reading looks at no byte of the data as two things.
use Rattle.std.specs.Prelude.{◌≡◌, ℕ, true, false, All, List, ◌∷◌, map, Some, Ok}
use Rattle.std.specs.List.{flat_map}
use Rattle.exif_base.specs.Bytes.{Reading}
use Rattle.exif_base.specs.Orders.{number_of}
use Rattle.exif_base.specs.declared.endian.Order.{Order}
use Rattle.exif_text.specs.declared.ifd.In.{In}
use Rattle.exif_types.specs.Sound.{HasPlainTexts}
use Rattle.exif_types.specs.declared.tag.Tag.{Tag}
use Rattle.exif_types.specs.declared.value.Value.{Value}
use Rattle.exif_tiff.specs.Apart.{looks_apart}
use Rattle.exif_tiff.specs.Trace.{entry_offsets, header}
use Rattle.exif_layout.specs.Groups.{Group}
use Rattle.exif_layout.specs.Image.{image}
use Rattle.exif_layout.specs.Ranged.{IsRanged}
use Rattle.exif_edit_base.specs.Locations.{Located, visited_gps, located}
use Rattle.exif_edit_base.specs.Finding.{last_located}
use Rattle.exif_edit_base.specs.Patches.{zeros_over}
use Rattle.exif_edit_base.specs.declared.patch.Span.{Span}
use Rattle.exif_edit_base.specs.Spans.{value_span, value_space}
use Rattle.exif_edit.specs.Erasing.{directory_span, erase_patches, gps_spans}
use Rattle.exif_edit.specs.GpsAlone.{gps_is_unshared}
use Rattle.exif_edit.specs.Setting.{set_patches}
use Rattle.exif_edit.specs.Sharing.{fit_answer, names_child, is_unshared}

-- the directory at q, and the values of its entries at which reading looks
abbrev pub visited_directory_spans : Reading → List ℕ → ℕ → List Span
visited_directory_spans number bytes q =
    directory_span number bytes q ∷ map (value_span number bytes) (entry_offsets number bytes q)

-- the GPS directories that reading visits, with these values
unfoldable pub visited_spans : Reading → List ℕ → List Span
visited_spans number bytes = flat_map (visited_directory_spans number bytes) (visited_gps bytes)

-- the GPS data that are erased are those at which reading looks: data point to no GPS directory
-- that reading does not visit, and none of the values is cut off or of a type that reading does not
-- know
abbrev pub AreGpsDataVisited : Reading → List ℕ → Type 0
AreGpsDataVisited number bytes = gps_spans number bytes ≡ visited_spans number bytes

-- each field is unshared then
abbrev pub EachStandsAlone : List ℕ → Type 0
EachStandsAlone bytes =
    (order : Order) → header bytes ≡ Ok order
    → looks_apart bytes ≡ true
    → All (λ (l : Located). is_unshared (number_of order) bytes l.entry ≡ true) (located bytes)

-- hence the last of a name does
abbrev pub LastStandsAlone : Tag → In → List ℕ → Type 0
LastStandsAlone tag k bytes =
    (order : Order) (at : Located) → header bytes ≡ Ok order
    → last_located tag k (located bytes) ≡ Some at
    → looks_apart bytes ≡ true → is_unshared (number_of order) bytes at.entry ≡ true

-- and GPS data do, if reading looks at all of them
abbrev pub GpsStandsAlone : List ℕ → Type 0
GpsStandsAlone bytes =
    (order : Order) → header bytes ≡ Ok order → AreGpsDataVisited (number_of order) bytes
    → looks_apart bytes ≡ true → gps_is_unshared (number_of order) bytes ≡ true

-- a value that reads back as it was is set if only it fits
abbrev pub IsSetApart : Tag → In → Value → List ℕ → Type 0
IsSetApart tag k value bytes =
    (order : Order) (at : Located) → header bytes ≡ Ok order
    → last_located tag k (located bytes) ≡ Some at → looks_apart bytes ≡ true
    → names_child tag.1 ≡ false → IsRanged value → HasPlainTexts value
    → set_patches bytes tag k value
    ≡ fit_answer order tag value at.entry (value_space (number_of order) bytes at.entry)

-- GPS data are erased, if reading looks at all of them
abbrev pub AreErasedApart : List ℕ → Type 0
AreErasedApart bytes =
    (order : Order) → header bytes ≡ Ok order → AreGpsDataVisited (number_of order) bytes
    → looks_apart bytes ≡ true
    → erase_patches bytes ≡ Ok (map zeros_over (gps_spans (number_of order) bytes))

-- a value that reads back as it was is set in an image if only it fits
abbrev pub IsSetInImage : Tag → In → Value → Order → List Group → Type 0
IsSetInImage tag k value order groups =
    (at : Located) → last_located tag k (located (image order groups)) ≡ Some at
    → names_child tag.1 ≡ false → IsRanged value → HasPlainTexts value
    → set_patches (image order groups) tag k value
    ≡ fit_answer order tag value at.entry
    (value_space (number_of order) (image order groups) at.entry)

-- GPS data are erased in an image, if reading looks at all of them
abbrev pub AreErasedInImage : Order → List Group → Type 0
AreErasedInImage order groups =
    AreGpsDataVisited (number_of order) (image order groups)
    → erase_patches (image order groups)
    ≡ Ok (map zeros_over (gps_spans (number_of order) (image order groups)))
