-- The box that bytes begin with (ISO/IEC 14496-12:2015, 4.2, 8.11.1; QuickTime File Format, "Metadata
-- Atoms").
use Rattle.std.specs.Prelude.{ℕ, ◌+◌, min, List, length, take, drop, codes, nat_le, Bool, true, false, ◌&&◌, Option, Some, None, if◌then◌else◌}
use Rattle.std.specs.Str.{bytes_eq}
use Rattle.exif_inventory.specs.BoxHeaders.{content_of, name_of}
use Rattle.exif_inventory.specs.declared.boxes.Head.{Head}
use Rattle.exif_movie.specs.Boxes.{head_at}
use Rattle.exif_movie.specs.Bytes.{is_zeros}
use Rattle.exif_movie.specs.Kinds.{kind_at}
use Rattle.exif_movie.specs.declared.kind.Kind.{Kind}
use Rattle.exif_movie.specs.declared.kind.Kind.TheVariants as kind
use Rattle.exif_movie.specs.declared.kind.Container.{Container}
use Rattle.exif_movie.specs.declared.kind.Container.TheVariants as container
use Rattle.exif_movie.specs.declared.piece.Piece.{Piece}

-- bytes that are no whole box
abbrev pub rest_kind : List ℕ → Kind
rest_kind bytes = if is_zeros bytes then kind.Free else kind.Broken

-- all bytes as one piece
abbrev pub rest_piece : List ℕ → Piece
rest_piece bytes = record { kind = rest_kind bytes; len = length bytes; front = 0 }

-- whether the content of a box of metadata begins with its handler, as in QuickTime files
abbrev pub is_quicktime_meta : List ℕ → Bool
is_quicktime_meta content =
    nat_le 8 (length content) && bytes_eq (take 4 (drop 4 content)) (codes "hdlr")

-- how many bytes of a box of metadata come before the boxes in it: a version and flags, or none
abbrev pub meta_front : Head → List ℕ → ℕ
meta_front head bytes =
    if is_quicktime_meta (content_of head bytes) then head.front else min head.len (head.front + 4)

-- how many bytes of a box come before its content
abbrev pub content_front : Kind → Head → List ℕ → ℕ
content_front (kind.Unopened container.Meta) head bytes = meta_front head bytes
content_front k head bytes = head.front

-- a box of this kind
abbrev pub box_piece : Kind → Head → List ℕ → Piece
box_piece k head bytes =
    record { kind = k; len = head.len; front = content_front k head bytes }

-- whether boxes are those of the file itself
abbrev pub is_file : Container → Bool
is_file container.File = true
is_file _ = false

-- the piece with this header, or all bytes that are left
abbrev pub headed_piece : Container → List ℕ → Option Head → Piece
headed_piece within bytes None = rest_piece bytes
headed_piece within bytes (Some head) =
    box_piece (kind_at within (name_of bytes) (content_of head bytes)) head bytes

-- the piece that bytes begin with
unfoldable pub piece_at : Container → List ℕ → Piece
piece_at within bytes = headed_piece within bytes (head_at (is_file within) bytes)
