-- The thumbnail of a HEIF or AVIF file, and how it is coded (ISO/IEC 14496-12, 8.11.3 `iloc`, 8.11.4
-- `pitm`, 8.11.6 `iinf`, 8.11.11 `idat`, 8.11.12 `iref`; ISO/IEC 23008-12, 6.4.4 `thmb`).
use Rattle.std.specs.Prelude.{ℕ, ◌+◌, ◌*◌, ◌==◌, List, [], ◌∷◌, take, drop, length, nat_lt, unwrap_or, ◌||◌, not, if◌then◌else◌, codes, Option, Some, None, Result, Ok, Err}
use Rattle.std.specs.Io.Iter.{u64_saturate}
use Rattle.std.specs.Option.{option_and_then, option_map}
use Rattle.std.specs.Str.{bytes_eq}
use Rattle.exif_types.specs.Refusals.{Refusal, last_read}
use Rattle.exif_isobmff.specs.HeifFile.{meta_body}
use Rattle.exif_isobmff.specs.ItemLocations.{ItemExtents, locations}
use Rattle.exif_isobmff.specs.declared.locations.Extent.{Extent}
use Rattle.exif_formats.specs.Cr3.{first_held}
use Rattle.exif_thumbnails.specs.Seen as seen
use Rattle.exif_thumbnails.specs.Seen.{Shown, jpeg_within, shown}
use Rattle.exif_thumbnails.specs.declared.heif.Coding.{Coding}
use Rattle.exif_thumbnails.specs.declared.heif.Coding.TheVariants.{Av1, Hevc, Jpeg, Other}
use Rattle.exif_thumbnails.specs.declared.heif.HeifThumbnail.{HeifThumbnail}
use Rattle.exif_thumbnails.specs.declared.heif.HeifThumbnail.TheVariants.{At, Known}
use Rattle.exif_thumbnails.specs.declared.place.Place.{Place}

-- what was found; nothing where a box is broken
abbrev pub found_in : Result (Option (List ℕ)) Refusal → Option (List ℕ)
found_in (Ok found) = found
found_in (Err r) = None

-- what the first box of a type that begins with these bytes holds behind them
abbrev pub held : List ℕ → List ℕ → List ℕ → Option (List ℕ)
held name front bytes = found_in (first_held name front bytes)

-- the boxes behind the version and the flags
abbrev pub children_in : Result (List ℕ) Refusal → Option (List ℕ)
children_in (Ok body) = if nat_lt (length body) 4 then None else Some (drop 4 body)
children_in (Err r) = None

-- the boxes in the first `meta` of a file
abbrev pub meta_children : List ℕ → Option (List ℕ)
meta_children file = children_in (meta_body file)

-- version 0 without flags
abbrev pub plain : List ℕ
plain = 0 ∷ 0 ∷ 0 ∷ 0 ∷ []

-- the item that a reference is from: its number, how many items it is to, and their numbers, of
-- which the first is the primary item, in 2 bytes each
abbrev pub from_item : List ℕ → List ℕ → Option (List ℕ)
from_item primary thumbnail =
    if nat_lt (length thumbnail) 6 || not (bytes_eq (take 2 (drop 4 thumbnail)) primary) then None
    else Some (take 2 thumbnail)

-- the number of the item that is the thumbnail of the primary item: that of the first reference
-- of the type `thmb`
abbrev pub thumbnail_item : List ℕ → Option (List ℕ)
thumbnail_item children =
    option_and_then (λ primary. option_and_then (λ references.
    option_and_then (from_item primary) (held (codes "thmb") [] references))
    (held (codes "iref") plain children)) (held (codes "pitm") plain children)

-- the first of two, or else the second
abbrev pub first_of : Option (List ℕ) → Option (List ℕ) → Option (List ℕ)
first_of (Some x) other = Some x
first_of None other = other

-- what the entry of version 2 of the item with this number says, be it visible (flags 0) or
-- hidden (flags 1)
abbrev pub entry_named : List ℕ → List ℕ → Option (List ℕ)
entry_named entries (high ∷ low ∷ []) =
    first_of (held (codes "infe") (2 ∷ 0 ∷ 0 ∷ 0 ∷ high ∷ low ∷ []) entries)
    (held (codes "infe") (2 ∷ 0 ∷ 0 ∷ 1 ∷ high ∷ low ∷ []) entries)
entry_named entries item = None

-- the same of a list with a count of 2 bytes
abbrev pub entry_behind : List ℕ → List ℕ → Option (List ℕ)
entry_behind item list =
    if nat_lt (length list) 2 then None else entry_named (drop 2 list) item

-- the same of the boxes in `meta`
abbrev pub entry_in : List ℕ → List ℕ → Option (List ℕ)
entry_in children item = option_and_then (entry_behind item) (held (codes "iinf") plain children)

-- the coding that the type of an item names
abbrev pub coding_named : List ℕ → Coding
coding_named name =
    if bytes_eq name (codes "jpeg") then Jpeg else
    if bytes_eq name (codes "hvc1") || bytes_eq name (codes "hev1") then Hevc else
    if bytes_eq name (codes "av01") then Av1 else Other

-- the coding of an item: its type is behind the index of its protection
abbrev pub coding_of : List ℕ → Option Coding
coding_of entry =
    if nat_lt (length entry) 6 then None else Some (coding_named (take 4 (drop 2 entry)))

-- the number of an item, in its two bytes
abbrev pub number_in : List ℕ → Option ℕ
number_in (high ∷ low ∷ []) = Some (high * 256 + low)
number_in item = None

-- the location that was found; none where it is refused
abbrev pub location_in : Result (Option ItemExtents) Refusal → Option ItemExtents
location_in (Ok found) = found
location_in (Err r) = None

-- the last location of an item in the first `iloc` of the boxes in `meta`
abbrev pub location_of : List ℕ → List ℕ → Option ItemExtents
location_of children item =
    option_and_then (λ number. option_and_then (λ iloc.
    location_in (last_read None (locations number iloc)))
    (held (codes "iloc") [] children)) (number_in item)

-- the bytes of the first `idat` of these from an offset on
abbrev pub beside : List ℕ → ℕ → List ℕ
beside children offset = drop offset (unwrap_or (held (codes "idat") [] children) [])

-- what is known of a thumbnail: where in the file its bytes are, or what it is
pub data Found : Type 0 where
  at : Place → Found
  known : Shown → Found

-- what the code knows of one
abbrev pub heif_view : HeifThumbnail → Found
heif_view (At place) = at place
heif_view (Known thumbnail) = known (shown thumbnail)

-- an item of the type `jpeg` that is not read
abbrev pub not_read : Found
not_read = known (seen.item Jpeg)

-- an item that is one extent: of a length, which 0 leaves to the end of all bytes; and in the file
-- (construction method 0), or in `idat` (1)
abbrev pub extent_found : List ℕ → ℕ → ℕ → Extent → Found
extent_found children method base e =
    if (e.len == 0) || nat_lt 1 method then not_read else
    if method == 0 then at (record { offset = u64_saturate (base + e.offset); len = e.len }) else
    known (jpeg_within e.len (beside children (u64_saturate (base + e.offset))))

-- an item at a location
abbrev pub extents_found : List ℕ → ℕ → ℕ → List Extent → Found
extents_found children method base (e ∷ []) = extent_found children method base e
extents_found children method base extents = not_read

-- the same, if the location is known
abbrev pub located_found : List ℕ → Option ItemExtents → Found
located_found children (Some p) = extents_found children p.method p.base p.extents
located_found children None = not_read

-- an item of the type `jpeg`
abbrev pub jpeg_found : List ℕ → List ℕ → Found
jpeg_found children item = located_found children (location_of children item)

-- an item of a coding
abbrev pub coded_found : List ℕ → List ℕ → Coding → Found
coded_found children item Jpeg = jpeg_found children item
coded_found children item coding = known (seen.item coding)

-- the item of which an entry says this
abbrev pub item_found : List ℕ → List ℕ → List ℕ → Option Found
item_found children item entry = option_map (coded_found children item) (coding_of entry)

-- the thumbnail of a file, if it has one
abbrev pub heif_thumbnail : List ℕ → Option Found
heif_thumbnail file =
    option_and_then (λ children. option_and_then (λ item.
    option_and_then (item_found children item) (entry_in children item)) (thumbnail_item children))
    (meta_children file)
