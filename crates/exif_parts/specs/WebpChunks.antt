-- The chunks of a WebP file, by the pieces of its inventory, and their bytes (WebP Container
-- Specification, "RIFF File Format", "Animation").
use Rattle.std.specs.Prelude.{ℕ, zero, suc, ◌-◌, ◌%◌, List, [], ◌∷◌, ◌++◌, length, take, drop, nat_le, nat_lt, Bool, not, ◌&&◌, ◌||◌, ◌==◌, if◌then◌else◌, None, Result, Ok, Err}
use Rattle.std.specs.Int.{to_le_bytes, w32}
use Rattle.exif_types.specs.Refusals.{Refusal}
use Rattle.exif_inventory.specs.WebpPieces.{chunk_piece, frame_piece, is_webp, number_at}
use Rattle.exif_inventory.specs.declared.kind.Kind.{Kind}
use Rattle.exif_inventory.specs.declared.piece.Piece.{Piece}
use Rattle.exif_inventory.specs.declared.piece.State.{State}
use Rattle.exif_inventory.specs.declared.piece.State.TheVariants.{Chunks, Frame}
use Rattle.exif_segments.specs.Webp.{broken_webp, invalid_file_size, not_webp, overflowing}
use Rattle.exif_segments.specs.declared.remove.Remove.TheVariants.{Metadata}
use Rattle.exif_parts.specs.Kept.{stays}
use Rattle.exif_parts.specs.Markers.{is_broken}

-- ---- the bytes of a chunk

-- the pad byte of a payload of an odd length
abbrev pub pad_of : ℕ → List ℕ
pad_of len = if len % 2 == 1 then 0 ∷ [] else []

-- a chunk: its name, its size, its payload, and a pad byte where that is odd
abbrev pub chunk_bytes : List ℕ → List ℕ → List ℕ
chunk_bytes name payload =
    name ++ (to_le_bytes w32 (length payload) ++ (payload ++ pad_of (length payload)))

-- the name at the front of bytes, and the payload behind its size
abbrev pub name_in : List ℕ → List ℕ
name_in bytes = take 4 bytes

abbrev pub payload_in : List ℕ → List ℕ
payload_in bytes = take (number_at 4 bytes) (drop 8 bytes)

-- ---- the chunks of a file

-- the space of a file behind its header: the form type counts in its size
abbrev pub body_space : List ℕ → Result ℕ Refusal
body_space file =
    if nat_lt (length file) 12 then Err broken_webp else
    if not (is_webp file) then Err not_webp else
    if nat_lt (number_at 4 file) 4 then Err invalid_file_size else Ok (number_at 4 file - 4)

-- the space that is left for the chunks of the file behind a piece; a frame is passed with all its
-- chunks
abbrev pub space_behind : State → ℕ
space_behind (Chunks space) = space
space_behind (Frame inner outer) = outer
space_behind state = 0

-- a chunk, which may be a frame, ends behind these bytes, or it does not end
abbrev pub is_cut : ℕ → Piece → List ℕ → Bool
is_cut space piece bytes =
    is_broken piece.kind || nat_lt (length bytes) (space - space_behind piece.next)

-- why such a chunk is refused: it does not fit into the space, or the bytes are over
abbrev pub cut_refusal : ℕ → List ℕ → Refusal
cut_refusal space bytes =
    if nat_lt space 8 || (nat_le 8 (length bytes) && nat_lt (space - 8) (number_at 4 bytes))
    then overflowing else broken_webp

-- the piece at the front of so much space, if it is whole
abbrev pub whole_chunk : ℕ → List ℕ → Result Piece Refusal
whole_chunk space bytes =
    let piece = chunk_piece space bytes in
    if is_cut space piece bytes then Err (cut_refusal space bytes) else Ok piece

-- ---- the chunks of an animation frame

-- what stays of the piece of a frame at the front of bytes: a chunk of the picture
abbrev pub frame_kept : Kind → List ℕ → List ℕ
frame_kept kind bytes =
    if stays Metadata kind None then chunk_bytes (name_in bytes) (payload_in bytes) else []

-- what stays of at most n pieces of a frame, whose space these bytes are; each piece has a byte at
-- least
unfoldable pub frame_within : ℕ → List ℕ → List ℕ
frame_within n [] = []
frame_within zero (b ∷ bytes) = []
frame_within (suc n) (b ∷ bytes) =
    let piece = frame_piece (length (b ∷ bytes)) 0 (b ∷ bytes) in
    frame_kept piece.kind (b ∷ bytes) ++ frame_within n (drop piece.len (b ∷ bytes))

-- the chunks of the picture in a frame
abbrev pub frame_chunks : List ℕ → List ℕ
frame_chunks bytes = frame_within (length bytes) bytes
