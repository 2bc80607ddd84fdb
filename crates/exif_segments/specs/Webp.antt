-- A WebP file as a list of chunks, and what it answers (WebP Container Specification, "RIFF File
-- Format", "WebP File Header", "Metadata").
use Rattle.std.specs.Prelude.{ℕ, zero, suc, ◌+◌, ◌-◌, ◌%◌, List, [], ◌∷◌, length, take, drop, codes, nat_lt, Bool, ◌&&◌, ◌==◌, if◌then◌else◌, Result, Ok, Err}
use Rattle.std.specs.Str.{bytes_eq}
use Rattle.byteorder.specs.Endian.{little_number}
use Rattle.exif_types.specs.Refusals.{Refusal, invalid_format, not_found}
use Rattle.exif_segments.specs.Answer.{Answer, found, refused}

-- the bytes end before an answer
abbrev pub broken_webp : Refusal
broken_webp = invalid_format (codes "Broken WebP file")

-- the file does not begin as a WebP file does
abbrev pub not_webp : Refusal
not_webp = invalid_format (codes "Not a WebP file")

-- the file is shorter than its form type
abbrev pub invalid_file_size : Refusal
invalid_file_size = invalid_format (codes "Invalid header file size")

-- a chunk does not fit into the space that is left
abbrev pub overflowing : Refusal
overflowing = invalid_format (codes "Chunk overflowing parent")

-- the body is used up, and held no Exif data
abbrev pub no_exif_in_webp : Refusal
no_exif_in_webp = not_found (codes "WebP")

-- all refusals of a WebP file
abbrev pub webp_refusals : List Refusal
webp_refusals = broken_webp ∷ not_webp ∷ invalid_file_size ∷ overflowing ∷ no_exif_in_webp ∷ []

-- a chunk at an offset of the body: the payload of `EXIF` and all that follows, or another one,
-- with the space that is left behind it and the bytes there
pub data Chunk : Type 0 where
  exif : List ℕ → List ℕ → Chunk
  other : ℕ → List ℕ → Chunk

-- an odd payload is padded, but at the end of the body
abbrev pub padded : ℕ → ℕ → ℕ
padded size space = if (size % 2 == 1) && nat_lt size space then size + 1 else size

-- a payload of Exif data, where it is whole
abbrev pub exif_chunk : ℕ → List ℕ → Result Chunk Refusal
exif_chunk size bytes =
    if nat_lt (length bytes) size then Err broken_webp else
    Ok (exif (take size bytes) (drop size bytes))

-- another payload and its pad byte, where they are whole
abbrev pub other_chunk : ℕ → ℕ → List ℕ → Result Chunk Refusal
other_chunk taken space bytes =
    if nat_lt (length bytes) taken then Err broken_webp else
    Ok (other (space - taken) (drop taken bytes))

-- what follows the name and the size of a chunk
abbrev pub chunk_body : List ℕ → ℕ → ℕ → List ℕ → Result Chunk Refusal
chunk_body name size space bytes =
    if nat_lt space size then Err overflowing else
    if bytes_eq name (codes "EXIF") then exif_chunk size bytes else
    other_chunk (padded size space) space bytes

-- the chunk at an offset with so much space
abbrev pub chunk_at : ℕ → List ℕ → Result Chunk Refusal
chunk_at space bytes =
    if space == 0 then Err no_exif_in_webp else
    if nat_lt space 8 then Err overflowing else
    if nat_lt (length bytes) 8 then Err broken_webp else
    chunk_body (take 4 bytes) (little_number 4 (drop 4 bytes)) (space - 8) (drop 8 bytes)

-- the answer of a chunk, or of what follows it
abbrev pub follow : Result Chunk Refusal → (ℕ → List ℕ → Answer) → Answer
follow (Ok (exif payload rest)) next = found payload rest
follow (Ok (other space bytes)) next = next space bytes
follow (Err r) next = refused r

-- the answer of a body, over at most n chunks
abbrev pub answer_within : ℕ → ℕ → List ℕ → Answer
answer_within zero space bytes = refused broken_webp
answer_within (suc n) space bytes = follow (chunk_at space bytes) (answer_within n)

-- a chunk has bytes, so there are no more chunks than bytes
abbrev pub body_answer : ℕ → List ℕ → Answer
body_answer space bytes = answer_within (suc (length bytes)) space bytes

-- whether bytes begin as a WebP file does
abbrev pub begins_webp : List ℕ → Bool
begins_webp bytes =
    bytes_eq (take 4 bytes) (codes "RIFF") && bytes_eq (take 4 (drop 8 bytes)) (codes "WEBP")

-- the answer of what is behind the header of a file of this size; the form type counts in it
abbrev pub sized_answer : ℕ → List ℕ → Answer
sized_answer size bytes =
    if nat_lt size 4 then refused invalid_file_size else body_answer (size - 4) bytes

-- the answer of a file: its header, and then its chunks
abbrev pub webp_answer : List ℕ → Answer
webp_answer bytes =
    if nat_lt (length bytes) 12 then refused broken_webp else
    if begins_webp bytes then sized_answer (little_number 4 (drop 4 bytes)) (drop 12 bytes) else
    refused not_webp
