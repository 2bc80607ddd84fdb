-- The pieces of a WebP file (WebP Container Specification, "RIFF File Format", "Extended File
-- Format").
use Rattle.std.specs.Prelude.{ℕ, ◌+◌, ◌-◌, ◌%◌, min, List, length, take, drop, codes, nat_lt, nat_le, Bool, ◌&&◌, ◌||◌, ◌==◌, if◌then◌else◌}
use Rattle.std.specs.Str.{bytes_eq}
use Rattle.std.specs.Int.{from_le_bytes, w32}
use Rattle.exif_inventory.specs.declared.kind.Kind.{Kind}
use Rattle.exif_inventory.specs.declared.kind.Kind.TheVariants as kind
use Rattle.exif_inventory.specs.declared.piece.Piece.{Piece}
use Rattle.exif_inventory.specs.declared.piece.State.{State}
use Rattle.exif_inventory.specs.declared.piece.State.TheVariants.{Chunks, Frame}

-- whether bytes begin as a WebP file does
abbrev pub is_webp : List ℕ → Bool
is_webp bytes =
    nat_le 12 (length bytes) && bytes_eq (take 4 bytes) (codes "RIFF")
    && bytes_eq (take 4 (drop 8 bytes)) (codes "WEBP")

-- what a chunk is, by its name; that of an animation frame is not one piece
abbrev pub chunk_kind : List ℕ → Kind
chunk_kind name =
    if bytes_eq name (codes "VP8 ") || bytes_eq name (codes "VP8L") || bytes_eq name (codes "VP8X")
    || bytes_eq name (codes "ALPH") || bytes_eq name (codes "ANIM")
    then kind.Picture else
    if bytes_eq name (codes "ICCP") then kind.IccProfile else
    if bytes_eq name (codes "EXIF") then kind.Exif else
    if bytes_eq name (codes "XMP ") then kind.Xmp else kind.Unknown

-- all bytes that are left, as one piece
abbrev pub rest_of : Kind → List ℕ → Piece
rest_of k bytes = record {
  kind = k;
  picture = 0;
  len = length bytes;
  front = 0;
  pad = 0;
  next = Chunks 0;
}

-- the number in four bytes at an index, the lowest first
abbrev pub number_at : ℕ → List ℕ → ℕ
number_at n bytes = from_le_bytes w32 (take 4 (drop n bytes))

-- the header of a file, or all that there is of it
abbrev pub header_piece : List ℕ → Piece
header_piece bytes =
    if nat_lt (length bytes) 12 then rest_of kind.Broken bytes else record {
      kind = kind.Picture;
      picture = 0;
      len = 12;
      front = 0;
      pad = 0;
      next = Chunks (number_at 4 bytes - 4);
    }

-- the length of a payload in a space, with its pad byte if it is odd and has one
abbrev pub padded : ℕ → ℕ → ℕ
padded size space = if (size % 2 == 1) && nat_lt size space then size + 1 else size

-- how many bytes of a chunk come before its data
abbrev pub front_of : Kind → ℕ
front_of kind.Picture = 0
front_of k = 8

-- how many follow them, where so many are behind its name and its size
abbrev pub pad_of : Kind → ℕ → ℕ → ℕ
pad_of kind.Picture size len = 0
pad_of k size len = len - size

-- a chunk of this kind and length, whose payload is of this size
abbrev pub kind_chunk : Kind → ℕ → ℕ → State → Piece
kind_chunk k size len next = record {
  kind = k;
  picture = 0;
  len = len;
  front = front_of k;
  pad = pad_of k size (len - 8);
  next = next;
}

-- the front of an animation frame: a name, a size, and the fields of 16 bytes ("ANMF")
abbrev pub frame_front : ℕ → ℕ → Piece
frame_front inner outer = record {
  kind = kind.Picture;
  picture = 0;
  len = 24;
  front = 0;
  pad = 0;
  next = Frame inner outer;
}

-- the length of a chunk with its name and its size; its pad byte may be missing at the end of the
-- file
abbrev pub taken_len : ℕ → ℕ → List ℕ → ℕ
taken_len space size bytes = min (8 + padded size (space - 8)) (length bytes)

-- a whole chunk whose payload is of this size
abbrev pub sized_chunk : ℕ → List ℕ → ℕ → Piece
sized_chunk space bytes size =
    if bytes_eq (take 4 bytes) (codes "ANMF") && nat_le 16 size
    then frame_front (padded size (space - 8) - 16) (space - 8 - padded size (space - 8)) else
    kind_chunk (chunk_kind (take 4 bytes)) size (taken_len space size bytes)
    (Chunks (space - 8 - padded size (space - 8)))

-- a chunk whose payload is of this size, if it is whole
abbrev pub given_chunk : ℕ → List ℕ → ℕ → Piece
given_chunk space bytes size =
    if nat_lt (space - 8) size || nat_lt (length bytes - 8) size then rest_of kind.Broken bytes
    else sized_chunk space bytes size

-- the chunk at the front of so much space, or all bytes that are left
unfoldable pub chunk_piece : ℕ → List ℕ → Piece
chunk_piece space bytes =
    if space == 0 then rest_of kind.Trailer bytes else
    if nat_lt space 8 || nat_lt (length bytes) 8 then rest_of kind.Broken bytes else
    given_chunk space bytes (number_at 4 bytes)

-- ---- the chunks of an animation frame

-- what a chunk of an animation frame is, by its name: the picture is its own ("Frame Data"), and
-- what else there is has no name that is known
abbrev pub frame_kind : List ℕ → Kind
frame_kind name =
    if bytes_eq name (codes "VP8 ") || bytes_eq name (codes "VP8L") || bytes_eq name (codes "ALPH")
    then kind.Picture else kind.Unknown

-- a whole chunk of a frame whose payload is of this size
abbrev pub frame_chunk : ℕ → ℕ → List ℕ → ℕ → Piece
frame_chunk inner outer bytes size =
    kind_chunk (frame_kind (take 4 bytes)) size (taken_len inner size bytes)
    (Frame (inner - 8 - padded size (inner - 8)) outer)

-- what is left of a frame and holds no whole chunk
abbrev pub frame_rest : ℕ → ℕ → List ℕ → Piece
frame_rest inner outer bytes = record {
  kind = kind.Broken;
  picture = 0;
  len = min inner (length bytes);
  front = 0;
  pad = 0;
  next = Chunks outer;
}

-- a chunk of a frame whose payload is of this size, if it is whole
abbrev pub frame_given : ℕ → ℕ → List ℕ → ℕ → Piece
frame_given inner outer bytes size =
    if nat_lt (inner - 8) size || nat_lt (length bytes - 8) size then frame_rest inner outer bytes
    else frame_chunk inner outer bytes size

-- the chunk at the front of so much space of a frame; behind its last one, the chunk that follows
-- the frame
unfoldable pub frame_piece : ℕ → ℕ → List ℕ → Piece
frame_piece inner outer bytes =
    if inner == 0 then chunk_piece outer bytes else
    if nat_lt inner 8 || nat_lt (length bytes) 8 then frame_rest inner outer bytes else
    frame_given inner outer bytes (number_at 4 bytes)
