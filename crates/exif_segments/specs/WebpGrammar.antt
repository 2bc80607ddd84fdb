-- WebP files as their specification writes them (WebP Container Specification, "RIFF File Format",
-- "WebP File Header", "Metadata"): trees, their bytes, and what makes them valid.
use Rattle.std.specs.Prelude.{◌≡◌, ◌≢◌, ℕ, ◌+◌, ◌-◌, ◌%◌, ◌<◌, ◌≤◌, List, [], ◌∷◌, ◌++◌, length, codes, nat_lt, ◌&&◌, ◌==◌, if◌then◌else◌, ⊤}
use Rattle.std.specs.List.{flat_map}
use Rattle.std.specs.Str.{bytes_eq}
use Rattle.byteorder.specs.Endian.{little_number}
use Rattle.exif_segments.specs.Answer.{Answer, found, refused}
use Rattle.exif_segments.specs.Webp.{broken_webp, not_webp, invalid_file_size, overflowing, no_exif_in_webp, webp_answer}

-- a chunk: four bytes of name, four that spell the payload's length, the payload, and a pad byte or
-- none
pub record ChunkTree : Type 0 where
  pub name : List ℕ
  pub size : List ℕ
  pub payload : List ℕ
  pub pad : List ℕ

-- the bytes of a chunk
abbrev pub print_chunk : ChunkTree → List ℕ
print_chunk c = c.name ++ (c.size ++ (c.payload ++ c.pad))

-- how many bytes of the body it takes
abbrev pub chunk_len : ChunkTree → ℕ
chunk_len c = 8 + (length c.payload + length c.pad)

-- how many pad bytes an odd payload has, with so many bytes of the body behind it
abbrev pub pad_len : ℕ → ℕ → ℕ
pad_len size behind = if (size % 2 == 1) && nat_lt 0 behind then 1 else 0

-- a name and a size fit into the space
pub record IsHeader (space : ℕ) (name size : List ℕ) : Type 0 where
  pub space_is : 8 ≤ space
  pub name_len : length name ≡ 4
  pub size_len : length size ≡ 4

-- the payload is as long as the size spells, and fits into the space
pub record IsChunk (space : ℕ) (c : ChunkTree) : Type 0 where
  pub header : IsHeader space c.name c.size
  pub payload_len : length c.payload ≡ little_number 4 c.size
  pub fits : little_number 4 c.size ≤ space - 8

-- a chunk with Exif data needs no pad byte
pub record IsExif (space : ℕ) (c : ChunkTree) : Type 0 where
  pub chunk : IsChunk space c
  pub name_is : c.name ≡ codes "EXIF"
  pub unpadded : c.pad ≡ []

-- any other chunk is padded, but at the end of the body
pub record IsOther (space : ℕ) (c : ChunkTree) : Type 0 where
  pub chunk : IsChunk space c
  pub name_is : c.name ≢ codes "EXIF"
  pub padded : length c.pad ≡ pad_len (length c.payload) (space - 8 - length c.payload)

-- chunks without Exif data, one after the other
abbrev pub AreOthers : ℕ → List ChunkTree → Type 0
AreOthers space [] = ⊤
AreOthers space (c ∷ cs) = IsOther space c × AreOthers (space - chunk_len c) cs

-- the space behind chunks
abbrev pub space_behind : ℕ → List ChunkTree → ℕ
space_behind space [] = space
space_behind space (c ∷ cs) = space_behind (space - chunk_len c) cs

-- how many bytes are behind a name and a size, with so much space there
abbrev pub wanted : List ℕ → ℕ → ℕ → ℕ
wanted name size space =
    if bytes_eq name (codes "EXIF") then size else size + pad_len size (space - size)

-- what ends the other chunks: one with Exif data and then any bytes; any bytes behind a body that
-- is used up, or that has no space for a header; a size over the space, and then any bytes; the end
-- of the bytes in a header; or the end of the bytes behind a name and a size
pub data BodyEnd : Type 0 where
  exif : ChunkTree → List ℕ → BodyEnd
  used_up : List ℕ → BodyEnd
  no_space : List ℕ → BodyEnd
  too_long : List ℕ → List ℕ → List ℕ → BodyEnd
  cut_header : List ℕ → BodyEnd
  cut_payload : List ℕ → List ℕ → List ℕ → BodyEnd

-- the bytes of what ends the other chunks
abbrev pub print_end : BodyEnd → List ℕ
print_end (exif c rest) = print_chunk c ++ rest
print_end (used_up rest) = rest
print_end (no_space rest) = rest
print_end (too_long name size rest) = name ++ (size ++ rest)
print_end (cut_header bytes) = bytes
print_end (cut_payload name size bytes) = name ++ (size ++ bytes)

-- it ends them in that way, with so much space left
abbrev pub IsEnd : ℕ → BodyEnd → Type 0
IsEnd space (exif c rest) = IsExif space c
IsEnd space (used_up rest) = space ≡ 0
IsEnd space (no_space rest) = (0 < space) × (space < 8)
IsEnd space (too_long name size rest) = IsHeader space name size × (space - 8 < little_number 4 size)
IsEnd space (cut_header bytes) = (8 ≤ space) × (length bytes < 8)
IsEnd space (cut_payload name size bytes) =
    IsHeader space name size × (little_number 4 size ≤ space - 8)
    × (length bytes < wanted name (little_number 4 size) (space - 8))

-- its answer
abbrev pub end_answer : BodyEnd → Answer
end_answer (exif c rest) = found c.payload rest
end_answer (used_up rest) = refused no_exif_in_webp
end_answer (no_space rest) = refused overflowing
end_answer (too_long name size rest) = refused overflowing
end_answer (cut_header bytes) = refused broken_webp
end_answer (cut_payload name size bytes) = refused broken_webp

-- twelve bytes with a size between two names
abbrev pub print_header : List ℕ → List ℕ
print_header size = codes "RIFF" ++ (size ++ codes "WEBP")

-- a file: its header, other chunks and what ends them; a header with too small a size; fewer than
-- twelve bytes; or bytes that begin with no header
pub data WebpFile : Type 0 where
  body : List ℕ → List ChunkTree → BodyEnd → WebpFile
  small : List ℕ → List ℕ → WebpFile
  short : List ℕ → WebpFile
  foreign : List ℕ → WebpFile

-- the bytes of a file
abbrev pub print_file : WebpFile → List ℕ
print_file (body size cs end) = print_header size ++ (flat_map print_chunk cs ++ print_end end)
print_file (small size rest) = print_header size ++ rest
print_file (short bytes) = bytes
print_file (foreign bytes) = bytes

-- the space of a body: four bytes of the file's size are the second name
abbrev pub body_space : List ℕ → ℕ
body_space size = little_number 4 size - 4

-- these bytes begin with no header of a file
abbrev pub HasNoHeader : List ℕ → Type 0
HasNoHeader bytes = (size rest : List ℕ) → length size ≡ 4 → bytes ≡ print_header size ++ rest → ⊥

-- the tree is valid
abbrev pub IsFile : WebpFile → Type 0
IsFile (body size cs end) =
    (length size ≡ 4) × (4 ≤ little_number 4 size) × AreOthers (body_space size) cs
    × IsEnd (space_behind (body_space size) cs) end
IsFile (small size rest) = (length size ≡ 4) × (little_number 4 size < 4)
IsFile (short bytes) = length bytes < 12
IsFile (foreign bytes) = (12 ≤ length bytes) × HasNoHeader bytes

-- the answer of a file
abbrev pub file_answer : WebpFile → Answer
file_answer (body size cs end) = end_answer end
file_answer (small size rest) = refused invalid_file_size
file_answer (short bytes) = refused broken_webp
file_answer (foreign bytes) = refused not_webp

-- the bytes of a valid file are answered as its tree says
abbrev pub FileIsAnswered : WebpFile → Type 0
FileIsAnswered f = IsFile f → webp_answer (print_file f) ≡ file_answer f

-- all bytes are those of a valid file
abbrev pub IsAFile : List ℕ → Type 0
IsAFile bytes = (f : WebpFile) × IsFile f × (print_file f ≡ bytes)
