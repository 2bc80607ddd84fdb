-- RAF files as trees, their bytes, and what makes them valid.
use Rattle.std.specs.Prelude.{◌≡◌, ℕ, ◌+◌, ◌-◌, ◌^◌, ◌<◌, ◌≤◌, List, ◌++◌, length, take, codes}
use Rattle.byteorder.specs.Endian.{big_number}
use Rattle.exif_segments.specs.Answer.{Answer, refused}
use Rattle.exif_segments.specs.Jpeg.{jpeg_answer}
use Rattle.exif_formats.specs.Raf.{broken_raf, not_raf, invalid_jpeg_offset, raf_answer}

-- a header: the signature, fields that are not read, the offset of the JPEG stream, and its length
pub record RafHeader : Type 0 where
  pub fields : List ℕ
  pub offset : List ℕ
  pub size : List ℕ

-- the bytes of a header
abbrev pub print_header : RafHeader → List ℕ
print_header h = codes "FUJIFILMCCD-RAW " ++ (h.fields ++ (h.offset ++ h.size))

-- its fields have their lengths
pub record IsHeader (h : RafHeader) : Type 0 where
  pub fields_len : length h.fields ≡ 68
  pub offset_len : length h.offset ≡ 4
  pub size_len : length h.size ≡ 4

-- the offset that the header spells
abbrev pub offset_of : RafHeader → ℕ
offset_of h = big_number 4 h.offset

-- a file: a header, bytes that are skipped and a JPEG stream; a header and bytes that end before
-- the stream; a header with an offset within, and any bytes; fewer than 92 bytes; or bytes that
-- do not begin with the signature
pub data RafFile : Type 0 where
  stream : RafHeader → List ℕ → List ℕ → RafFile
  cut : RafHeader → List ℕ → RafFile
  early : RafHeader → List ℕ → RafFile
  short : List ℕ → RafFile
  foreign : List ℕ → RafFile

-- the bytes of a file
abbrev pub print_file : RafFile → List ℕ
print_file (stream h gap jpeg) = print_header h ++ (gap ++ jpeg)
print_file (cut h rest) = print_header h ++ rest
print_file (early h rest) = print_header h ++ rest
print_file (short bytes) = bytes
print_file (foreign bytes) = bytes

-- these bytes do not begin with the signature
abbrev pub HasNoSignature : List ℕ → Type 0
HasNoSignature bytes = (rest : List ℕ) → bytes ≡ codes "FUJIFILMCCD-RAW " ++ rest → ⊥

-- the tree is valid
abbrev pub IsFile : RafFile → Type 0
IsFile (stream h gap jpeg) = IsHeader h × (offset_of h ≡ 92 + length gap)
IsFile (cut h rest) = IsHeader h × (92 + length rest < offset_of h)
IsFile (early h rest) = IsHeader h × (offset_of h < 92)
IsFile (short bytes) = length bytes < 92
IsFile (foreign bytes) = (92 ≤ length bytes) × HasNoSignature bytes

-- the answer of a file; its JPEG stream ends after 2^64 - 1 bytes
abbrev pub file_answer : RafFile → Answer
file_answer (stream h gap jpeg) = jpeg_answer (take (2 ^ 64 - 1) jpeg)
file_answer (cut h rest) = refused broken_raf
file_answer (early h rest) = refused invalid_jpeg_offset
file_answer (short bytes) = refused broken_raf
file_answer (foreign bytes) = refused not_raf

-- the bytes of a valid file are answered as its tree says
abbrev pub FileIsAnswered : RafFile → Type 0
FileIsAnswered f = IsFile f → raf_answer (print_file f) ≡ file_answer f

-- all bytes are those of a valid file
abbrev pub IsAFile : List ℕ → Type 0
IsAFile bytes = (f : RafFile) × IsFile f × (print_file f ≡ bytes)
