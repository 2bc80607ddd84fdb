-- A file with a new block in place of its own, an XMP packet or a colour profile: the pieces of its
-- inventory that stay, in their order, and what is put (XMP part 3; ICC.1:2022, B.4; PNG
-- Specification, Third Edition, 11.3.2; ISO/IEC 18181-2, clause 9).
use Rattle.std.specs.Prelude.{ℕ, zero, suc, ◌+◌, ◌==◌, List, [], ◌∷◌, ◌++◌, length, take, drop, codes, nat_lt, Bool, true, false, not, ◌&&◌, ◌||◌, Some, None, if◌then◌else◌}
use Rattle.std.specs.Str.{bytes_eq}
use Rattle.exif_inventory.specs.Pieces.{piece_at}
use Rattle.exif_inventory.specs.Walks.{inventory}
use Rattle.exif_inventory.specs.declared.kind.Kind.{Kind}
use Rattle.exif_inventory.specs.declared.kind.Kind.TheVariants as kind
use Rattle.exif_inventory.specs.declared.part.Part.{Part}
use Rattle.exif_inventory.specs.declared.piece.Piece.{Piece}
use Rattle.exif_inventory.specs.declared.piece.State.{State}
use Rattle.exif_inventory.specs.declared.piece.State.TheVariants.{Stream, Resources, Chunks, Frame, PngChunks, JxlBoxes}
use Rattle.exif_parts.specs.Jpeg.{inserted, pending, resources_len}
use Rattle.exif_parts.specs.Markers.{is_broken, is_insertion_point, marker_of}
use Rattle.exif_blocks.specs.declared.blocks.Block.{Block}
use Rattle.exif_blocks.specs.declared.blocks.Block.TheVariants as block
use Rattle.exif_blocks.specs.declared.step.Place.{Place}
use Rattle.exif_blocks.specs.declared.step.Place.TheVariants.{BehindExif, BehindFirst, BeforeMarker}
use Rattle.exif_blocks.specs.declared.step.Step.{Step}

-- ---- what goes

-- whether pieces of a kind hold such a block: a long packet goes on in further segments
abbrev pub is_own : Block → Kind → Bool
is_own block.Xmp kind.Xmp = true
is_own block.Xmp kind.ExtendedXmp = true
is_own block.Profile kind.IccProfile = true
is_own _ _ = false

-- whether the four bytes of a piece behind so many are these
abbrev pub is_named : ℕ → List ℕ → List ℕ → Bool
is_named at piece name = bytes_eq (take 4 (drop at piece)) name

-- whether a chunk of a PNG file holds such a block: packets are in chunks of international text,
-- compressed or not; sRGB and cICP say the colours of a picture in another way than its profile does
abbrev pub is_own_chunk : Block → List ℕ → Bool
is_own_chunk block.Xmp chunk =
    is_named 4 chunk (codes "iTXt")
    && bytes_eq (take 18 (drop 8 chunk)) (codes "XML:com.adobe.xmp\0")
is_own_chunk block.Profile chunk =
    is_named 4 chunk (codes "iCCP") || is_named 4 chunk (codes "sRGB")
    || is_named 4 chunk (codes "cICP")

-- whether a box, whose header has so many bytes, holds a packet compressed: the type of what is
-- compressed comes first
abbrev pub is_packed_xmp : ℕ → List ℕ → Bool
is_packed_xmp header box = is_named 4 box (codes "brob") && is_named header box (codes "xml ")

-- whether a chunk or a box holds such a block in a way that its kind does not say
abbrev pub is_own_there : Block → State → Piece → List ℕ → Bool
is_own_there block PngChunks piece bytes = is_own_chunk block bytes
is_own_there block.Xmp JxlBoxes piece bytes = is_packed_xmp piece.front bytes
is_own_there _ _ piece bytes = false

-- whether a piece is replaced by a new block: bytes that are cut off are not
abbrev pub is_replaced : Block → State → Piece → List ℕ → Bool
is_replaced block state piece bytes =
    not (is_broken piece.kind)
    && (is_own block piece.kind || is_own_there block state piece bytes)

-- ---- where the new block goes

-- whether a piece is Exif data
abbrev pub is_exif : Kind → Bool
is_exif kind.Exif = true
is_exif k = false

-- whether no piece can be behind this one: it is a box of size 0, which goes to the end of the file
abbrev pub ends_file : State → List ℕ → Bool
ends_file JxlBoxes bytes = bytes_eq (take 4 bytes) (0 ∷ 0 ∷ 0 ∷ 0 ∷ [])
ends_file state bytes = false

-- whether the new block goes in front of a piece, and whether it goes behind it
abbrev pub is_before : Place → State → Kind → List ℕ → Bool
is_before BehindExif state k bytes = is_exif k && ends_file state bytes
is_before BehindFirst state k bytes = false
is_before BeforeMarker state k bytes = is_insertion_point (marker_of bytes)

abbrev pub is_behind : Place → State → Kind → List ℕ → Bool
is_behind BehindExif state k bytes = is_exif k && not (ends_file state bytes)
is_behind BehindFirst state k bytes = true
is_behind BeforeMarker state k bytes = false

-- what is written of a piece
abbrev pub step_of : Block → Place → State → Piece → List ℕ → Step
step_of block place state piece bytes = record {
  before = is_before place state piece.kind bytes;
  stays = not (is_replaced block state piece bytes);
  behind = is_behind place state piece.kind bytes;
}

-- a piece, and what is left to be put, as a step says
abbrev pub unit_put : Step → List ℕ → List ℕ → List ℕ
unit_put step new bytes =
    inserted step.before new ++ (inserted step.stays bytes ++ inserted step.behind new)

-- what is left to be put behind it
abbrev pub left_behind : Step → List ℕ → List ℕ
left_behind step new = pending (step.before || step.behind) new

-- ---- the pieces of a file

-- whether what comes next is behind the first picture
abbrev pub is_over : State → Bool
is_over (Stream picture scanned) = not (picture == 0)
is_over (Chunks space) = space == 0
is_over (Frame inner outer) = (inner == 0) && (outer == 0)
is_over PngChunks = false
is_over JxlBoxes = false
is_over state = true

-- whether a piece of it comes next
abbrev pub has_next : State → List ℕ → Bool
has_next state bytes = not (is_over state) && nat_lt 0 (length bytes)

-- how many bytes a piece has: a segment of Photoshop is one piece with all its resources
abbrev pub unit_len : State → Piece → ℕ
unit_len (Stream picture scanned) piece = piece.len + resources_len piece.next
unit_len state piece = piece.len

-- what follows it
abbrev pub next_of : State → State
next_of (Resources picture scanned n) = Stream picture scanned
next_of state = state

-- ---- the new file

-- what was written so far, and what at most n pieces become, with new bytes in their place, or
-- behind all pieces; what follows the picture stays. Each piece has a byte at least
unfoldable pub blocks_put : ℕ → Block → Place → State → List ℕ → List ℕ → List ℕ → List ℕ
blocks_put zero block place state new bytes out = (out ++ new) ++ bytes
blocks_put (suc n) block place state new bytes out =
    if has_next state bytes then
    (let piece = piece_at state bytes in
    let len = unit_len state piece in
    let step = step_of block place state piece (take len bytes) in
    blocks_put n block place (next_of piece.next) (left_behind step new) (drop len bytes)
    (out ++ unit_put step new (take len bytes)))
    else (out ++ new) ++ bytes

-- ---- the Exif data of a file

-- whether a part is the Exif data of the first picture
abbrev pub is_exif_part : Part → Bool
is_exif_part part = (part.picture == 0) && is_exif part.kind

-- whether one of these parts is
abbrev pub has_exif : List Part → Bool
has_exif [] = false
has_exif (part ∷ parts) = if is_exif_part part then true else has_exif parts

-- whether the first picture of a file has Exif data
abbrev pub exif_in : List ℕ → Bool
exif_in file = elim (inventory file) [
  | Some parts ↦ has_exif parts
  | None ↦ false
]
