-- JPEG XL files as their standard writes them (ISO/IEC 18181-2, clause 9): trees, their bytes, and
-- what makes them valid.
use Rattle.std.specs.Prelude.{◌≡◌, ◌≢◌, ◌⊎◌, ℕ, ◌+◌, ◌<◌, ◌≤◌, List, [], ◌∷◌, ◌++◌, length, take, codes, ⊤}
use Rattle.std.specs.List.{flat_map}
use Rattle.byteorder.specs.Endian.{big_number}
use Rattle.exif_segments.specs.Answer.{Answer, found, refused}
use Rattle.exif_formats.specs.Jxl.{broken_jxl, not_jxl, invalid_size, compressed_exif, no_exif_in_jxl, max_boxes, signature, jxl_answer}

-- the header of a box: four bytes that spell a size, four of type, and eight more or none
pub record Header : Type 0 where
  pub size : List ℕ
  pub name : List ℕ
  pub large : List ℕ

-- the bytes of a header
abbrev pub print_header : Header → List ℕ
print_header h = h.size ++ (h.name ++ h.large)

-- it has the bytes of a size and of a type
pub record IsHeader (h : Header) : Type 0 where
  pub size_len : length h.size ≡ 4
  pub name_len : length h.name ≡ 4

-- the size counts the header and a body
pub record IsSmall (h : Header) (len : ℕ) : Type 0 where
  pub header : IsHeader h
  pub none : h.large ≡ []
  pub size_is : big_number 4 h.size ≡ 8 + len

-- the size is 1, and eight more bytes count the header and a body
pub record IsLarge (h : Header) (len : ℕ) : Type 0 where
  pub header : IsHeader h
  pub one : big_number 4 h.size ≡ 1
  pub large_len : length h.large ≡ 8
  pub size_is : big_number 8 h.large ≡ 16 + len

-- a header gives the length of a body
abbrev pub Gives : Header → ℕ → Type 0
Gives h len = IsSmall h len ⊎ IsLarge h len

-- the size is 0: a body goes to the end
pub record IsOpen (h : Header) : Type 0 where
  pub header : IsHeader h
  pub none : h.large ≡ []
  pub zero : big_number 4 h.size ≡ 0

-- this many bytes are a body, and these follow it
abbrev pub Holds : Header → ℕ → List ℕ → Type 0
Holds h len rest = Gives h len ⊎ (IsOpen h × (rest ≡ []))

-- the size does not count the header itself
abbrev pub IsTooSmall : Header → Type 0
IsTooSmall h =
    (IsHeader h × (h.large ≡ []) × (1 < big_number 4 h.size) × (big_number 4 h.size < 8))
    ⊎ (IsHeader h × (big_number 4 h.size ≡ 1) × (length h.large ≡ 8) × (big_number 8 h.large < 16))

-- a box
pub record BoxTree : Type 0 where
  pub header : Header
  pub body : List ℕ

-- the bytes of a box
abbrev pub print_box : BoxTree → List ℕ
print_box b = print_header b.header ++ b.body

-- a body holds no Exif data, compressed or not
abbrev pub IsOtherBody : List ℕ → List ℕ → Type 0
IsOtherBody name body =
    (name ≢ codes "Exif")
    × (name ≡ codes "brob" → (4 ≤ length body) × (take 4 body ≢ codes "Exif"))

-- a box without Exif data, which does not go to the end
abbrev pub IsOther : BoxTree → Type 0
IsOther b = Gives b.header (length b.body) × IsOtherBody b.header.name b.body

-- boxes without Exif data, one after the other
abbrev pub AreOthers : List BoxTree → Type 0
AreOthers [] = ⊤
AreOthers (b ∷ bs) = IsOther b × AreOthers bs

-- a body is too short for what it begins with: the offset and what it counts, or a type
abbrev pub IsShortBody : List ℕ → List ℕ → Type 0
IsShortBody name body =
    ((name ≡ codes "Exif") × (length body < 4 + big_number 4 body))
    ⊎ ((name ≡ codes "brob") × (length body < 4))

-- what ends the other boxes: one with Exif data, which are an offset, so many bytes and the TIFF
-- data; one with compressed Exif data; another one that goes to the end; the end of the file; a
-- body that is too short; a size that is too small, and then any bytes; the end of the bytes in a
-- header, behind its size and its type, or in a body; or any bytes behind so many boxes
pub data BoxesEnd : Type 0 where
  exif : Header → List ℕ → List ℕ → List ℕ → List ℕ → BoxesEnd
  compressed : Header → List ℕ → List ℕ → BoxesEnd
  last : Header → List ℕ → BoxesEnd
  used_up : BoxesEnd
  short_body : Header → List ℕ → List ℕ → BoxesEnd
  too_small : Header → List ℕ → BoxesEnd
  cut_header : List ℕ → BoxesEnd
  cut_large : Header → BoxesEnd
  cut_body : Header → ℕ → List ℕ → BoxesEnd
  too_many : List ℕ → BoxesEnd

-- the bytes of what ends the other boxes
abbrev pub print_end : BoxesEnd → List ℕ
print_end (exif h offset before tiff rest) =
    print_header h ++ ((offset ++ (before ++ tiff)) ++ rest)
print_end (compressed h packed rest) = print_header h ++ ((codes "Exif" ++ packed) ++ rest)
print_end (last h body) = print_header h ++ body
print_end used_up = []
print_end (short_body h body rest) = print_header h ++ (body ++ rest)
print_end (too_small h rest) = print_header h ++ rest
print_end (cut_header bytes) = bytes
print_end (cut_large h) = print_header h
print_end (cut_body h len bytes) = print_header h ++ bytes
print_end (too_many rest) = rest

-- it ends the boxes in that way, of which so many come before it, and so many count
abbrev pub IsEnd : ℕ → ℕ → BoxesEnd → Type 0
IsEnd n most (exif h offset before tiff rest) =
    (n < most) × Holds h (length (offset ++ (before ++ tiff))) rest × (h.name ≡ codes "Exif")
    × (length offset ≡ 4) × (big_number 4 offset ≡ length before)
IsEnd n most (compressed h packed rest) =
    (n < most) × Holds h (length (codes "Exif" ++ packed)) rest × (h.name ≡ codes "brob")
IsEnd n most (last h body) = (n < most) × IsOpen h × IsOtherBody h.name body
IsEnd n most used_up = n < most
IsEnd n most (short_body h body rest) =
    (n < most) × Holds h (length body) rest × IsShortBody h.name body
IsEnd n most (too_small h rest) = (n < most) × IsTooSmall h
IsEnd n most (cut_header bytes) = (n < most) × (0 < length bytes) × (length bytes < 8)
IsEnd n most (cut_large h) =
    (n < most) × IsHeader h × (big_number 4 h.size ≡ 1) × (length h.large < 8)
IsEnd n most (cut_body h len bytes) = (n < most) × Gives h len × (length bytes < len)
IsEnd n most (too_many rest) = n ≡ most

-- its answer
abbrev pub end_answer : BoxesEnd → Answer
end_answer (exif h offset before tiff rest) = found tiff rest
end_answer (compressed h packed rest) = refused compressed_exif
end_answer (last h body) = refused no_exif_in_jxl
end_answer used_up = refused no_exif_in_jxl
end_answer (short_body h body rest) = refused broken_jxl
end_answer (too_small h rest) = refused invalid_size
end_answer (cut_header bytes) = refused broken_jxl
end_answer (cut_large h) = refused broken_jxl
end_answer (cut_body h len bytes) = refused broken_jxl
end_answer (too_many rest) = refused broken_jxl

-- a file: its signature, other boxes and what ends them; a naked codestream; fewer than twelve
-- bytes; or bytes that begin with no signature
pub data JxlFile : Type 0 where
  container : List BoxTree → BoxesEnd → JxlFile
  codestream : List ℕ → JxlFile
  short : List ℕ → JxlFile
  foreign : List ℕ → JxlFile

-- the bytes of a file
abbrev pub print_file : JxlFile → List ℕ
print_file (container bs end) = signature ++ (flat_map print_box bs ++ print_end end)
print_file (codestream rest) = 0xff ∷ 0x0a ∷ rest
print_file (short bytes) = bytes
print_file (foreign bytes) = bytes

-- these bytes begin no codestream
abbrev pub IsNoCodestream : List ℕ → Type 0
IsNoCodestream bytes = (rest : List ℕ) → bytes ≡ 0xff ∷ 0x0a ∷ rest → ⊥

-- the tree is valid
abbrev pub IsFile : JxlFile → Type 0
IsFile (container bs end) = AreOthers bs × IsEnd (length bs) max_boxes end
IsFile (codestream rest) = ⊤
IsFile (short bytes) = (length bytes < 12) × IsNoCodestream bytes
IsFile (foreign bytes) =
    (12 ≤ length bytes) × IsNoCodestream bytes
    × ((rest : List ℕ) → bytes ≡ signature ++ rest → ⊥)

-- the answer of a file
abbrev pub file_answer : JxlFile → Answer
file_answer (container bs end) = end_answer end
file_answer (codestream rest) = refused no_exif_in_jxl
file_answer (short bytes) = refused broken_jxl
file_answer (foreign bytes) = refused not_jxl

-- the bytes of a valid file are answered as its tree says
abbrev pub FileIsAnswered : JxlFile → Type 0
FileIsAnswered f = IsFile f → jxl_answer (print_file f) ≡ file_answer f

-- all bytes are those of a valid file
abbrev pub IsAFile : List ℕ → Type 0
IsAFile bytes = (f : JxlFile) × IsFile f × (print_file f ≡ bytes)
