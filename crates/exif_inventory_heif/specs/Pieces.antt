-- The pieces of a file: its boxes, the header of its first `meta`, and the boxes in that
-- (ISO/IEC 14496-12, 4.2, 8.11.1).
use Rattle.std.specs.Prelude.{ℕ, suc, zero, ◌+◌, ◌-◌, min, List, length, take, codes, nat_lt, Bool, false, Option, Some, None, if◌then◌else◌}
use Rattle.std.specs.Str.{bytes_eq}
use Rattle.exif_inventory.specs.declared.kind.Kind.TheVariants as kind
use Rattle.exif_inventory.specs.BoxHeaders.{content_of, head_of, name_of}
use Rattle.exif_inventory_heif.specs.Roles.{child_role, top_role}
use Rattle.exif_inventory.specs.declared.boxes.Head.{Head}
use Rattle.exif_inventory_heif.specs.declared.piece.Piece.{Piece}
use Rattle.exif_inventory_heif.specs.declared.piece.State.{State}
use Rattle.exif_inventory_heif.specs.declared.piece.State.TheVariants.{Before, Inside}
use Rattle.exif_inventory_heif.specs.declared.role.Role.{Role}
use Rattle.exif_inventory_heif.specs.declared.role.Role.TheVariants.{Known, Meta}

-- all bytes that are left, as one piece
abbrev pub rest_piece : List ℕ → State → Piece
rest_piece bytes next =
    record { role = Known kind.Broken; len = length bytes; front = 0; next = next }

-- how many bytes of a box come before its content: an XMP packet is behind 16 bytes of a name
abbrev pub content_front : Role → Head → ℕ
content_front (Known kind.Picture) head = 0
content_front (Known kind.Xmp) head = min head.len (head.front + 16)
content_front role head = head.front

-- a box of this role
abbrev pub box_piece : Role → Head → State → Piece
box_piece role head next =
    record { role = role; len = head.len; front = content_front role head; next = next }

-- the header of a `meta`, with its version and flags, if it has them
abbrev pub meta_piece : Head → Piece
meta_piece head =
    if nat_lt (head.len - head.front) 4
    then record { role = Known kind.Broken; len = head.len; front = 0; next = Inside 0 }
    else record {
      role = Meta;
      len = head.front + 4;
      front = 0;
      next = Inside (head.len - head.front - 4);
    }

-- whether a box is the `meta` that is read
abbrev pub is_meta : State → List ℕ → Bool
is_meta Before name = bytes_eq name (codes "meta")
is_meta (Inside space) name = false

-- a box of the file, whose header this is, or all bytes that are left
abbrev pub top_box : State → List ℕ → Option Head → Piece
top_box state bytes None = rest_piece bytes state
top_box state bytes (Some head) =
    if is_meta state (name_of bytes) then meta_piece head else
    box_piece (top_role (name_of bytes) (content_of head bytes)) head state

unfoldable pub top_piece : State → List ℕ → Piece
top_piece state bytes = top_box state bytes (head_of bytes)

-- a child of a `meta` with these bytes, whose header this is, or all of them
abbrev pub child_box : List ℕ → Option Head → Piece
child_box bytes None = rest_piece bytes (Inside 0)
child_box bytes (Some head) =
    box_piece (child_role (name_of bytes) (content_of head bytes)) head
    (Inside (length bytes - head.len))

unfoldable pub child_piece : List ℕ → Piece
child_piece bytes = child_box bytes (head_of bytes)

-- the piece at the front of bytes
abbrev pub piece_at : State → List ℕ → Piece
piece_at Before bytes = top_piece Before bytes
piece_at (Inside zero) bytes = top_piece (Inside 0) bytes
piece_at (Inside (suc space)) bytes = child_piece (take (suc space) bytes)
