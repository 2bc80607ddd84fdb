-- The pieces of a JPEG XL file in its container (ISO/IEC 18181-2, clause 9).
use Rattle.std.specs.Prelude.{ℕ, ◌+◌, List, [], ◌∷◌, length, take, drop, codes, nat_lt, Bool, ◌||◌, Option, None, Some, if◌then◌else◌}
use Rattle.std.specs.Option.{is_none}
use Rattle.std.specs.Str.{bytes_eq}
use Rattle.std.specs.Int.{from_be_bytes, w32}
use Rattle.exif_inventory.specs.BoxHeaders.{head_of, name_of}
use Rattle.exif_inventory.specs.declared.boxes.Head.{Head}
use Rattle.exif_inventory.specs.declared.kind.Kind.{Kind}
use Rattle.exif_inventory.specs.declared.kind.Kind.TheVariants as kind
use Rattle.exif_inventory.specs.declared.piece.Piece.{Piece}
use Rattle.exif_inventory.specs.declared.piece.State.TheVariants.{JxlBoxes}

-- whether bytes begin as a JPEG XL file in its container does: with its first box
abbrev pub is_jxl : List ℕ → Bool
is_jxl bytes =
    bytes_eq (take 12 bytes)
    (0 ∷ 0 ∷ 0 ∷ 12 ∷ 0x4a ∷ 0x58 ∷ 0x4c ∷ 0x20 ∷ 13 ∷ 10 ∷ 0x87 ∷ 10 ∷ [])

-- what a box is, by its type
abbrev pub box_kind : List ℕ → Kind
box_kind name =
    if bytes_eq name (codes "JXL ") || bytes_eq name (codes "ftyp") || bytes_eq name (codes "jxlc")
    || bytes_eq name (codes "jxlp") || bytes_eq name (codes "jxll") || bytes_eq name (codes "jxli")
    then kind.Picture else
    if bytes_eq name (codes "xml ") then kind.Xmp else
    if bytes_eq name (codes "jumb") then kind.ContentCredentials else kind.Unknown

-- all bytes that are left, as one piece
abbrev pub rest_of_jxl : Kind → List ℕ → Piece
rest_of_jxl k bytes = record {
  kind = k;
  picture = 0;
  len = length bytes;
  front = 0;
  pad = 0;
  next = JxlBoxes;
}

-- what a box that is cut off is: the picture goes as far as it does
abbrev pub cut_kind : Kind → Kind
cut_kind kind.Picture = kind.Picture
cut_kind k = kind.Broken

-- a box that is cut off, which has its type
abbrev pub cut_box : List ℕ → Piece
cut_box bytes = rest_of_jxl (cut_kind (box_kind (name_of bytes))) bytes

-- a box of this kind and length, of which so many bytes come before its data
abbrev pub kind_box : Kind → ℕ → ℕ → Piece
kind_box k len front = record {
  kind = k;
  picture = 0;
  len = len;
  front = front;
  pad = 0;
  next = JxlBoxes;
}

-- how many bytes of a box come before its data, where its header has so many
abbrev pub box_front : Kind → ℕ → ℕ
box_front kind.Picture header = 0
box_front k header = header

-- a box, by its type
abbrev pub other_box : List ℕ → ℕ → ℕ → Piece
other_box name header len = kind_box (box_kind name) len (box_front (box_kind name) header)

-- a box with Exif data: behind its header an offset, and so many bytes before the TIFF data; it is
-- not known where they do not lie in it
abbrev pub exif_box : List ℕ → ℕ → ℕ → Piece
exif_box bytes header len =
    let front = header + 4 + from_be_bytes w32 (take 4 (drop header bytes)) in
    if nat_lt len front then kind_box kind.Unknown len header else kind_box kind.Exif len front

-- a box whose header has so many bytes, and which has this length in all
abbrev pub whole_box : List ℕ → ℕ → ℕ → Piece
whole_box bytes header len =
    if bytes_eq (name_of bytes) (codes "Exif") then exif_box bytes header len else
    other_box (name_of bytes) header len

-- a box with this header, or all bytes that are left, where they hold no whole box
abbrev pub headed_box : List ℕ → Option Head → Piece
headed_box bytes None = cut_box bytes
headed_box bytes (Some head) = whole_box bytes head.front head.len

-- the box at the front of bytes
unfoldable pub box_piece : List ℕ → Piece
box_piece bytes =
    if nat_lt (length bytes) 8 then rest_of_jxl kind.Broken bytes else
    headed_box bytes (head_of bytes)

-- whether the box at the front of bytes is cut off
abbrev pub is_cut_box : List ℕ → Bool
is_cut_box bytes = is_none (head_of bytes)
