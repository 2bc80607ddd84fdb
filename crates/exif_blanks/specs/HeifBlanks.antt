-- What comes in place of metadata (TIFF 6.0, Section 2; ISO/IEC 23008-12, A.2.1; XMP Specification,
-- Part 1, 7.3.3; ISO/IEC 14496-12, 8.1.2).
use Rattle.std.specs.Prelude.{ℕ, ◌-◌, List, [], ◌∷◌, ◌++◌, length, take, drop, replicate, codes, nat_lt, Bool, true, nat_le, ◌==◌, ◌&&◌, Option, None, Some, if◌then◌else◌}
use Rattle.std.specs.Str.{bytes_eq}
use Rattle.exif_inventory.specs.BoxHeaders.{box_header}
use Rattle.exif_inventory.specs.declared.boxes.BoxHeader.{BoxHeader}
use Rattle.exif_inventory.specs.declared.kind.Kind.TheVariants as kind
use Rattle.exif_inventory_heif.specs.declared.role.Role.{Role}
use Rattle.exif_inventory_heif.specs.declared.role.Role.TheVariants.{ItemInfo, ItemLocation, Known, Meta}
use Rattle.exif_inventory_heif.specs.declared.span.Span.{Span}
use Rattle.exif_blanks.specs.declared.blank.Blank.{Blank}
use Rattle.exif_blanks.specs.declared.blank.Blank.TheVariants.{Nothing, Fields, Packet, Zeros, Free, Described}
use Rattle.exif_blanks.specs.declared.steps.Place.TheVariants.{Box}
use Rattle.exif_blanks.specs.Steps.{bared}

-- an Exif item without fields: no bytes before the TIFF data, and these with an empty directory
abbrev pub no_fields : List ℕ
no_fields = codes "\0\0\0\0MM\0*\0\0\0" ++ 8 ∷ 0 ∷ 0 ∷ 0 ∷ 0 ∷ 0 ∷ 0 ∷ []

-- an XMP packet without properties
abbrev pub no_properties : List ℕ
no_properties = codes "<x:xmpmeta xmlns:x='adobe:ns:meta/'/>"

-- as many bytes: a text, if it fits, and then only this byte
abbrev pub padded : List ℕ → ℕ → List ℕ → List ℕ
padded text b bytes =
    if nat_le (length text) (length bytes)
    then text ++ replicate (length bytes - length text) b
    else replicate (length bytes) b

-- how many bytes come before the content of a box with this header; more than there are, if it is
-- cut off
abbrev pub header_front : Option BoxHeader → ℕ
header_front None = 16
header_front (Some header) = header.front

-- how many come before the content of a box
abbrev pub free_front : List ℕ → ℕ
free_front bytes = header_front (box_header bytes)

-- a box with the name of free space
abbrev pub renamed : List ℕ → List ℕ
renamed bytes = take 4 bytes ++ (codes "free" ++ drop 8 bytes)

-- bytes that are zeros from an offset on
abbrev pub cleared_from : ℕ → List ℕ → List ℕ
cleared_from offset bytes = take offset bytes ++ replicate (length bytes - offset) 0

-- a box as free space of its size, with a header of so many bytes
abbrev pub freed : ℕ → List ℕ → List ℕ
freed front bytes =
    if nat_lt (length bytes) front then bytes else cleared_from front (renamed bytes)

-- a box as free space of its size: its name is another one, and its content zeros
abbrev pub as_free : List ℕ → List ℕ
as_free bytes = freed (free_front bytes) bytes

-- a box that describes pictures, without what does not
abbrev pub described : List ℕ → List ℕ
described bytes = bared Box bytes

-- bytes in place of these
unfoldable pub blanked : Blank → List ℕ → List ℕ
blanked Nothing bytes = bytes
blanked Fields bytes = padded no_fields 0 bytes
blanked Packet bytes = padded no_properties 32 bytes
blanked Zeros bytes = padded [] 0 bytes
blanked Free bytes = as_free bytes
blanked Described bytes = described bytes

-- whether bytes are what comes in place of them
abbrev pub is_blank : Blank → List ℕ → Bool
is_blank how bytes = bytes_eq (blanked how bytes) bytes

-- whether all bytes are this one
abbrev pub all_are : ℕ → List ℕ → Bool
all_are b [] = true
all_are b (x ∷ bytes) = (b == x) && all_are b bytes

-- an item's data, or a box, which has a header
abbrev pub item_or_box : Span → Blank → Blank → Blank
item_or_box span item box = if span.content == span.from then item else box

-- what becomes of a box that is not known: where the items are not understood, it may hold data of
-- a picture
abbrev pub unknown_box : Bool → Blank
unknown_box judged = if judged then Free else Nothing

-- what becomes of a box that describes pictures, or lists the items: where these are not
-- understood, it stays
abbrev pub listed_box : Bool → Blank
listed_box judged = if judged then Described else Nothing

-- what becomes of a span of this role
abbrev pub role_blank : Bool → Role → Span → Blank
role_blank judged (Known kind.Exif) span = Fields
role_blank judged (Known kind.Xmp) span = item_or_box span Packet Free
role_blank judged (Known kind.Unknown) span = item_or_box span Zeros (unknown_box judged)
role_blank judged (Known kind.ContentCredentials) span = Free
role_blank judged Meta span = listed_box judged
role_blank judged ItemInfo span = listed_box judged
role_blank judged ItemLocation span = listed_box judged
role_blank judged role span = Nothing

-- what becomes of a span
abbrev pub span_blank : Bool → Span → Blank
span_blank judged span = role_blank judged span.role span
