-- A WebP file written again: the pieces of its inventory that stay, in their order, and new Exif
-- data (WebP Container Specification, "Extended File Format", "Metadata", "Unknown Chunks",
-- "Animation"; RFC 6386, 9.1; WebP Lossless Bitstream Specification, 3).
use Rattle.std.specs.Prelude.{ℕ, zero, suc, ◌+◌, ◌-◌, ◌*◌, ◌/◌, ◌%◌, List, [], ◌∷◌, ◌++◌, length, take, drop, codes, nat_le, nat_lt, Bool, true, false, not, ◌||◌, ◌==◌, if◌then◌else◌, Option, None, Some, Result, Ok, Err}
use Rattle.std.specs.Str.{bytes_eq}
use Rattle.std.specs.Int.{from_le_bytes, to_le_bytes, w16, w32}
use Rattle.exif_types.specs.Refusals.{Refusal, not_supported, ◌>>=◌}
use Rattle.exif_inventory.specs.WebpPieces.{number_at}
use Rattle.exif_inventory.specs.declared.piece.Piece.{Piece}
use Rattle.exif_inventory.specs.declared.piece.State.{State}
use Rattle.exif_inventory.specs.declared.piece.State.TheVariants.{Frame}
use Rattle.exif_segments.specs.Removing.{too_large, behind}
use Rattle.exif_segments.specs.declared.remove.Remove.{Remove}
use Rattle.exif_segments.specs.declared.remove.Remove.TheVariants.{Exif, Metadata}
use Rattle.exif_parts.specs.Kept.{stays}
use Rattle.exif_parts.specs.WebpChunks.{body_space, chunk_bytes, frame_chunks, name_in, payload_in, space_behind, whole_chunk}

-- ---- the flags of the extended format

-- the flags without one of them, which is a power of two
abbrev pub without : ℕ → ℕ → ℕ
without flag flags = if (flags / flag) % 2 == 1 then flags - flag else flags

-- the flags without that of XMP, where all metadata go
abbrev pub without_xmp : Remove → ℕ → ℕ
without_xmp Exif flags = flags
without_xmp Metadata flags = without 4 flags

-- the flags of a file: that of Exif data is set where some are put
abbrev pub new_flags : Remove → Bool → ℕ → ℕ
new_flags remove put flags = without 8 (without_xmp remove flags) + (if put then 8 else 0)

-- the payload of a VP8X chunk with its flags right
abbrev pub flagged : Remove → Bool → List ℕ → List ℕ
flagged remove put [] = []
flagged remove put (flags ∷ rest) = new_flags remove put flags ∷ rest

-- ---- what stays of a chunk

-- its payload: the flags of VP8X are settled
abbrev pub settled : Remove → Bool → List ℕ → List ℕ → List ℕ
settled remove put name payload =
    if bytes_eq name (codes "VP8X") then flagged remove put payload else payload

-- and a frame that is left without metadata has its fields and the picture's chunks
abbrev pub left_payload : Remove → Bool → State → List ℕ → List ℕ
left_payload Metadata put (Frame inner outer) bytes =
    take 16 (drop 8 bytes) ++ frame_chunks (take inner (drop 24 bytes))
left_payload remove put next bytes = settled remove put (name_in bytes) (payload_in bytes)

-- what stays of the piece at the front of bytes
abbrev pub kept_chunk : Remove → Bool → Piece → List ℕ → List ℕ
kept_chunk remove put piece bytes =
    if stays remove piece.kind None
    then chunk_bytes (name_in bytes) (left_payload remove put piece.next bytes) else []

-- the chunks of a body that stay, and the bytes behind it
pub record Kept : Type 0 where
  pub chunks : List ℕ
  pub rest : List ℕ

-- the chunks that were kept so far, and what stays of at most n of those in so much space; a chunk
-- takes space, so there are no more chunks than space
unfoldable pub filtered : ℕ → Remove → Bool → ℕ → List ℕ → List ℕ → Result Kept Refusal
filtered zero remove put space bytes out = Ok (record { chunks = out; rest = bytes })
filtered (suc n) remove put space bytes out =
    if space == 0 then Ok (record { chunks = out; rest = bytes }) else
    (whole_chunk space bytes >>= λ piece.
    filtered n remove put (space_behind piece.next) (drop (space - space_behind piece.next) bytes)
    (out ++ kept_chunk remove put piece bytes))

-- ---- the canvas of a file without VP8X

-- no image header is in front
abbrev pub no_canvas : Refusal
no_canvas = not_supported (codes "WebP file without an image header")

-- a number in three bytes, the lowest first
abbrev pub three : ℕ → List ℕ
three n = take 3 (to_le_bytes w32 n)

-- the payload of a VP8X chunk: flags and a canvas
abbrev pub extended : ℕ → ℕ → ℕ → List ℕ
extended flags width height =
    flags ∷ 0 ∷ 0 ∷ 0 ∷ (three (width - 1) ++ three (height - 1))

-- the canvas of a lossy image: a key frame's tag, 9d 01 2a, and two sizes of 14 bits
abbrev pub lossy : List ℕ → Option (List ℕ)
lossy p =
    if nat_lt (length p) 10
    || not (bytes_eq (take 3 (drop 3 p)) (157 ∷ 1 ∷ 42 ∷ [])) then None else
    Some (extended 8 (from_le_bytes w16 (take 2 (drop 6 p)) % 16384)
    (from_le_bytes w16 (take 2 (drop 8 p)) % 16384))

-- the canvas of a lossless image: 2f, two sizes less one of 14 bits, and whether it has alpha
abbrev pub lossless : List ℕ → Option (List ℕ)
lossless p =
    if nat_lt (length p) 5 || not (bytes_eq (take 1 p) (47 ∷ [])) then None else
    Some (lossless_canvas (number_at 1 p))
  where
    lossless_canvas : ℕ → List ℕ
    lossless_canvas bits =
        extended (8 + 16 * ((bits / 268435456) % 2)) (bits % 16384 + 1) ((bits / 16384) % 16384 + 1)

-- the canvas of the image in the first of these chunks
abbrev pub image_canvas : List ℕ → Option (List ℕ)
image_canvas chunks =
    if bytes_eq (name_in chunks) (codes "VP8 ") then lossy (payload_in chunks) else
    if bytes_eq (name_in chunks) (codes "VP8L") then lossless (payload_in chunks) else None

-- what was made of an image's header, or the refusal that there is none
abbrev pub or_none : Option (List ℕ) → Result (Option (List ℕ)) Refusal
or_none None = Err no_canvas
or_none (Some payload) = Ok (Some payload)

-- the payload of the VP8X chunk that a file is to be given, whose chunks these are: none where it
-- begins with one
abbrev pub canvas : List ℕ → Result (Option (List ℕ)) Refusal
canvas chunks =
    if bytes_eq (name_in chunks) (codes "VP8X") then Ok None else or_none (image_canvas chunks)

-- the canvas where data are put: a file with Exif data is in the extended format
abbrev pub canvas_where : Option (List ℕ) → List ℕ → Result (Option (List ℕ)) Refusal
canvas_where None chunks = Ok None
canvas_where (Some payload) chunks = canvas chunks

-- ---- the new file

-- whether there is something
abbrev pub is_put : Option (List ℕ) → Bool
is_put None = false
is_put (Some payload) = true

-- a chunk of this name, where there is a payload, and else no bytes
abbrev pub named_chunk : List ℕ → Option (List ℕ) → List ℕ
named_chunk name None = []
named_chunk name (Some payload) = chunk_bytes name payload

-- the bytes of a file of this size
abbrev pub file_bytes : ℕ → List ℕ → List ℕ
file_bytes size chunks = codes "RIFF" ++ (to_le_bytes w32 size ++ (codes "WEBP" ++ chunks))

-- the file of these chunks, where four bytes hold its size: the form type counts
abbrev pub file_of : List ℕ → Result (List ℕ) Refusal
file_of chunks =
    if nat_le 4294967292 (length chunks) then Err too_large
    else Ok (file_bytes (4 + length chunks) chunks)

-- a canvas, the chunks that stay, and new data: metadata may be anywhere, so new ones are last
abbrev pub new_chunks : Option (List ℕ) → List ℕ → Option (List ℕ) → List ℕ
new_chunks made chunks put =
    named_chunk (codes "VP8X") made ++ (chunks ++ named_chunk (codes "EXIF") put)

-- the file of what was kept
abbrev pub with_kept : Remove → Option (List ℕ) → Kept → Result (List ℕ) Refusal
with_kept remove put kept =
    canvas_where put kept.chunks >>= λ made.
    file_of (new_chunks made kept.chunks put) >>= λ text.
    Ok (text ++ behind remove kept.rest)

-- a WebP file without its Exif data, or without all metadata, and with new Exif data if there are
-- some
abbrev pub webp_rewritten : Remove → Option (List ℕ) → List ℕ → Result (List ℕ) Refusal
webp_rewritten remove put file =
    body_space file >>= λ space.
    filtered space remove (is_put put) space (drop 12 file) [] >>= λ kept. with_kept remove put kept
