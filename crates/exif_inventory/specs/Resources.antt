-- The resources of Photoshop, in a segment of a JPEG stream or in Exif data (Photoshop File Formats,
-- "Image Resource Blocks", "Image Resource IDs").
use Rattle.std.specs.Prelude.{ℕ, ◌+◌, ◌-◌, ◌*◌, ◌%◌, min, List, [], ◌∷◌, length, take, slice_index, codes, nat_le, Bool, ◌&&◌, ◌==◌, if◌then◌else◌}
use Rattle.std.specs.List.{list_any}
use Rattle.std.specs.Str.{bytes_eq}
use Rattle.exif_inventory.specs.declared.kind.Kind.{Kind}
use Rattle.exif_inventory.specs.declared.kind.Kind.TheVariants as kind
use Rattle.exif_inventory.specs.declared.piece.Piece.{Piece}
use Rattle.exif_inventory.specs.declared.piece.State.{State}
use Rattle.exif_inventory.specs.declared.piece.State.TheVariants.{Stream, Resources}
use Rattle.exif_inventory.specs.declared.resource.Resource.{Resource}

-- the number in four bytes, big-endian
abbrev pub number_of : List ℕ → ℕ → ℕ
number_of bytes n =
    16777216 * slice_index bytes n + 65536 * slice_index bytes (n + 1)
    + 256 * slice_index bytes (n + 2) + slice_index bytes (n + 3)

-- ---- what a resource holds

-- whether a number is one of these
abbrev pub is_one_of : List ℕ → ℕ → Bool
is_one_of numbers number = list_any (λ n. number == n) numbers

-- how many bytes the numbers take that are all of a small resource:
-- 1: CopyrightFlag, Watermark, ICCUntagged, EffectsVisible;
-- 2: DotRange, LayerState, LayersGroup, IndexedColorTableCount, TransparencyIndex; 3: QuickMask;
-- 4: GlobalAngle, IDsSeedNumber, GlobalAltitude (of light); 6: Border; 9: PrintFlags
abbrev pub small_len : ℕ → ℕ
small_len number =
    if is_one_of (1034 ∷ 1040 ∷ 1041 ∷ 1042 ∷ []) number then 1 else
    if is_one_of (1019 ∷ 1024 ∷ 1026 ∷ 1046 ∷ 1047 ∷ []) number then 2 else
    if number == 1022 then 3 else
    if is_one_of (1037 ∷ 1044 ∷ 1049 ∷ []) number then 4 else
    if number == 1009 then 6 else
    if number == 1011 then 9 else 0

-- the same of the others: 10: the size of the picture, BackgroundColor, PrintFlagsInfo;
-- 12: PixelAspectRatio; 14: DisplayInfo, PrintScale; 16: ResolutionInfo, GridGuides, CaptionDigest;
-- 18: a halftone screen; 28: a transfer function; 72: four halftone screens; 112: four transfer
-- functions; none of any other number
abbrev pub numbers_len : ℕ → ℕ
numbers_len number =
    if is_one_of (1000 ∷ 1010 ∷ 10000 ∷ []) number then 10 else
    if number == 1064 then 12 else
    if is_one_of (1007 ∷ 1062 ∷ []) number then 14 else
    if is_one_of (1005 ∷ 1032 ∷ 1061 ∷ []) number then 16 else
    if number == 1012 then 18 else
    if number == 1015 then 28 else
    if is_one_of (1013 ∷ 1014 ∷ []) number then 72 else
    if is_one_of (1016 ∷ 1017 ∷ []) number then 112 else small_len number

-- what a resource without a name is, by its number and the size of its data: IPTC data (0x0404),
-- Exif data (0x0422), an XMP packet (0x0424), numbers alone, or any other one: those may hold a text
-- or a picture, as the caption (1008), the thumbnails (1033, 1036) and XML (1002) do
abbrev pub resource_kind : ℕ → ℕ → Kind
resource_kind number size =
    if number == 0x404 then kind.Iptc else
    if number == 0x422 then kind.PhotoshopExif else
    if number == 0x424 then kind.PhotoshopXmp else
    if nat_le size (numbers_len number) then kind.Photoshop else kind.PhotoshopOther

-- ---- one resource

-- how many bytes the name of a resource takes: its length, its letters, and one more if that is odd
abbrev pub name_len : ℕ → ℕ
name_len n = n + 1 + (n + 1) % 2

-- the length of what comes before the data of a resource: signature, number, name and size
abbrev pub front_len : List ℕ → ℕ
front_len bytes = 10 + name_len (slice_index bytes 6)

-- the size of the data
abbrev pub size_of : List ℕ → ℕ
size_of bytes = number_of bytes (front_len bytes - 4)

-- the length of the front and the data; data of an odd size are padded, but at the end
abbrev pub whole_len : List ℕ → ℕ
whole_len bytes = min (front_len bytes + size_of bytes + size_of bytes % 2) (length bytes)

-- whether bytes begin with a whole resource
abbrev pub is_whole : List ℕ → Bool
is_whole bytes =
    nat_le 12 (length bytes) && bytes_eq (take 4 bytes) (codes "8BIM")
    && nat_le (front_len bytes) (length bytes)
    && nat_le (size_of bytes) (length bytes - front_len bytes)

-- a resource without a name
abbrev pub plain_resource : List ℕ → Resource
plain_resource bytes = record {
  kind = resource_kind (256 * slice_index bytes 4 + slice_index bytes 5) (size_of bytes);
  front = front_len bytes;
  size = size_of bytes;
  len = whole_len bytes;
}

-- a resource with a name, which is a text: that is of its data, which are not searched
abbrev pub named_resource : List ℕ → Resource
named_resource bytes = record {
  kind = kind.PhotoshopOther;
  front = 6;
  size = front_len bytes + size_of bytes - 6;
  len = whole_len bytes;
}

-- a whole resource
abbrev pub whole_resource : List ℕ → Resource
whole_resource bytes =
    if slice_index bytes 6 == 0 then plain_resource bytes else named_resource bytes

-- all bytes, which are none
abbrev pub rest_resource : List ℕ → Resource
rest_resource bytes =
    record { kind = kind.Broken; front = 0; size = length bytes; len = length bytes }

-- the resource at the front, or all bytes where they begin with no whole one
unfoldable pub resource_at : List ℕ → Resource
resource_at bytes = if is_whole bytes then whole_resource bytes else rest_resource bytes

-- ---- the resources of a segment

-- what follows in a segment with so much space left
abbrev pub after_resource : ℕ → Bool → ℕ → State
after_resource picture scanned space =
    if space == 0 then Stream picture scanned else Resources picture scanned space

-- a resource at the front of so much space
abbrev pub piece_of : ℕ → Bool → ℕ → Resource → Piece
piece_of picture scanned space resource = record {
  kind = resource.kind;
  picture = picture;
  len = resource.len;
  front = resource.front;
  pad = resource.len - resource.front - resource.size;
  next = after_resource picture scanned (space - resource.len);
}

-- how many bytes of a space are there, and a byte at least
abbrev pub space_of : ℕ → List ℕ → ℕ
space_of space bytes = if space == 0 then length bytes else min space (length bytes)

-- the resource at the front of so much space of a segment
unfoldable pub resource_piece : ℕ → Bool → ℕ → List ℕ → Piece
resource_piece picture scanned space bytes =
    piece_of picture scanned (space_of space bytes)
    (resource_at (take (space_of space bytes) bytes))
