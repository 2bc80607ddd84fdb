-- The thumbnail of Exif data (Exif 2.32, 4.5.8): a JPEG stream, which may have metadata of its own.
use Rattle.std.specs.Prelude.{ℕ, ◌+◌, ◌==◌, ◌||◌, not, nat_le, Bool, true, false, List, [], ◌∷◌, ◌++◌, length, take, drop, is_some, Option, None, Some, Ok, Err, if◌then◌else◌}
use Rattle.std.specs.Option.{option_and_then}
use Rattle.std.specs.Str.{bytes_eq}
use Rattle.exif_inventory.specs.Walks.{inventory}
use Rattle.exif_inventory.specs.declared.kind.Kind.{Kind}
use Rattle.exif_inventory.specs.declared.kind.Kind.TheVariants as kind
use Rattle.exif_inventory.specs.declared.part.Part.{Part}
use Rattle.exif_locations.specs.declared.unread.Unread.{Unread}
use Rattle.exif_table.specs.declared.context.Context.TheVariants.{Tiff}
use Rattle.exif_text.specs.declared.ifd.In.{In}
use Rattle.exif_types.specs.Lookup.{last_named}
use Rattle.exif_types.specs.Numbers.{number_in}
use Rattle.exif_types.specs.declared.field.Field.{Field}
use Rattle.exif_types.specs.declared.tag.Tag.{Tag}
use Rattle.exif_edit_base.specs.Readings.{Read, reading, reads_as}
use Rattle.exif_edit_base.specs.declared.patch.Span.{Span}
use Rattle.exif_data_locations.specs.Erasing.{noted_if, own_erased}
use Rattle.exif_data_locations.specs.Regions.{all_zero, what_answer}
use Rattle.exif_data_locations.specs.declared.region.What.{What}
use Rattle.exif_data_locations.specs.declared.region.What.TheVariants as what
use Rattle.exif_data_locations.specs.declared.reason.Reason.{Reason}
use Rattle.exif_data_locations.specs.declared.reason.Reason.TheVariants.{Shared, Thumbnail}

-- ---- where it is

-- the second directory of the chain
abbrev pub second : In
second = record { 0 = 1 }

-- the tag of the chain with a number
abbrev pub chain_tag : ℕ → Tag
chain_tag number = record { 0 = Tiff; 1 = number }

-- the number that the last field of the second directory with a tag holds
abbrev pub number_named : ℕ → List Field → Option ℕ
number_named number fields =
    option_and_then (λ (f : Field). number_in f.value 0)
    (last_named fields (chain_tag number) second)

-- this many bytes from an offset on, if data of a length have them
abbrev pub span_in : ℕ → ℕ → ℕ → Option Span
span_in total offset len =
    if nat_le (offset + len) total then Some (record { offset = offset; len = len }) else None

-- where the thumbnail of data of a length is, by JPEGInterchangeFormat and
-- JPEGInterchangeFormatLength
abbrev pub thumbnail_span : ℕ → List Field → Option Span
thumbnail_span total fields =
    option_and_then
    (λ offset. option_and_then (λ len. span_in total offset len) (number_named 0x202 fields))
    (number_named 0x201 fields)

-- ---- its parts

-- new bytes, and whether there is a reason why they may hold a location
abbrev pub with_reason : List ℕ × Option Reason → List ℕ × Bool
with_reason (new, None) = (new, false)
with_reason (new, Some why) = (new, true)

-- what data that are not looked at hold: nothing, if they are zeros
abbrev pub unjudged : List ℕ → What
unjudged bytes = if all_zero bytes then what.Other else what.Residual Thumbnail

-- what the data of a part hold that are no Exif data: a JFIF header has 14 bytes (JFIF 1.02), and
-- maybe a small picture, Adobe's segment has 12
abbrev pub what_of : Kind → List ℕ → What
what_of kind.Xmp bytes = what.Xmp
what_of kind.PhotoshopXmp bytes = what.Xmp
what_of kind.Iptc bytes = what.Iptc
what_of kind.Jfif bytes = unjudged (drop 14 bytes)
what_of kind.Adobe bytes = unjudged (drop 12 bytes)
what_of kind.JfifThumbnail bytes = unjudged bytes
what_of kind.PhotoshopOther bytes = unjudged bytes
what_of kind.ExtendedXmp bytes = unjudged bytes
what_of kind.Comment bytes = unjudged bytes
what_of kind.ContentCredentials bytes = unjudged bytes
what_of kind.Trailer bytes = unjudged bytes
what_of kind.Unknown bytes = unjudged bytes
what_of kind.Broken bytes = unjudged bytes
what_of _ bytes = what.Other

-- such data without their locations, and whether they may still hold one
abbrev pub other_answer : Unread → Kind → List ℕ → List ℕ × Bool
other_answer unread k bytes = with_reason (what_answer 0x201 unread (what_of k bytes) bytes)

-- whether data have a thumbnail
abbrev pub has_thumbnail : List ℕ → Bool
has_thumbnail bytes = elim (reading bytes) [
  | Ok read ↦ is_some (thumbnail_span (length bytes) read.fields)
  | Err fault ↦ false
]

-- new data, and whether they may hold a location: for a reason, or in a thumbnail
abbrev pub with_further : List ℕ × List Reason → List ℕ × Bool
with_further (new, whys) = (new, not (length whys == 0) || has_thumbnail new)

-- the data of a part without their locations, and whether they may still hold one; a further
-- thumbnail in Exif data is not searched
abbrev pub part_answer : Unread → Kind → List ℕ → List ℕ × Bool
part_answer unread kind.Exif bytes = with_further (own_erased unread bytes)
part_answer unread kind.PhotoshopExif bytes = with_further (own_erased unread bytes)
part_answer unread k bytes = other_answer unread k bytes

-- this many bytes from an offset on
abbrev pub bytes_at : ℕ → ℕ → List ℕ → List ℕ
bytes_at offset len bytes = take len (drop offset bytes)

-- data with new bytes in their place
abbrev pub with_bytes : ℕ → ℕ → List ℕ → List ℕ → List ℕ
with_bytes offset len new bytes = take offset bytes ++ (new ++ drop (offset + len) bytes)

-- data with new bytes in a stretch
abbrev pub placed : ℕ → ℕ → List ℕ → List ℕ × Bool → List ℕ × Bool
placed offset len bytes (new, left) = (with_bytes offset len new bytes, left)

-- a stream without the locations of a part, and whether that may still hold one
abbrev pub part_erased : Unread → Part → List ℕ → List ℕ × Bool
part_erased unread part bytes =
    placed part.data_offset part.data_len bytes
    (part_answer unread part.kind (bytes_at part.data_offset part.data_len bytes))

-- the same with parts one after the other, where one before them may hold a location or not
abbrev pub parts_erased : Unread → List Part → Bool → List ℕ → List ℕ × Bool
parts_erased unread [] left bytes = (bytes, left)
parts_erased unread (part ∷ parts) left bytes =
    let made = part_erased unread part bytes in
    parts_erased unread parts (left || made.1) made.0

-- a stream without the locations of its parts, and whether it may still hold one; other bytes stay
abbrev pub stream_erased : Unread → List ℕ → List ℕ × Bool
stream_erased unread bytes = elim (inventory bytes) [
  | Some parts ↦ parts_erased unread parts false bytes
  | None ↦ (bytes, false)
]

-- ---- data

-- new data that are not the old ones, if they are read as these
abbrev pub if_same : Read → List ℕ → List ℕ → List Reason → List ℕ × List Reason
if_same read old new whys =
    if bytes_eq old new then (old, whys) else
    (if reads_as new read then (new, whys) else (old, whys ++ Shared ∷ []))

-- data with a new thumbnail, and the reason if that may still hold a location
abbrev pub with_thumbnail : Read → List ℕ → List Reason → List ℕ × Bool → List ℕ × List Reason
with_thumbnail read bytes whys (new, left) = if_same read bytes new (noted_if left Thumbnail whys)

-- data without the locations in a stream that is so many bytes of them, and whether that may still
-- hold one
abbrev pub stretch_erased : Unread → ℕ → ℕ → List ℕ → List ℕ × Bool
stretch_erased unread offset len bytes =
    placed offset len bytes (stream_erased unread (bytes_at offset len bytes))

-- data without the locations in a stream in them
abbrev pub span_erased : Unread → Read → List ℕ → List Reason → Span → List ℕ × List Reason
span_erased unread read bytes whys span =
    with_thumbnail read bytes whys (stretch_erased unread span.offset span.len bytes)

-- data that are read so, without the locations in their thumbnail
abbrev pub read_thumbnail_erased : Unread → Read → List ℕ → List Reason → List ℕ × List Reason
read_thumbnail_erased unread read bytes whys = elim (thumbnail_span (length bytes) read.fields) [
  | Some span ↦ span_erased unread read bytes whys span
  | None ↦ (bytes, whys)
]

-- data without the locations in their thumbnail, if they have one, and the reasons with its own
abbrev pub thumbnail_erased : Unread → List ℕ × List Reason → List ℕ × List Reason
thumbnail_erased unread (bytes, whys) = elim (reading bytes) [
  | Ok read ↦ read_thumbnail_erased unread read bytes whys
  | Err fault ↦ (bytes, whys)
]
