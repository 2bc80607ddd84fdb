-- A JPEG XL file in its container as a list of boxes, and what it answers (ISO/IEC 18181-2, clause
-- 9; a naked codestream begins as ISO/IEC 18181-1 says).
use Rattle.std.specs.Prelude.{ℕ, zero, suc, ◌+◌, ◌-◌, ◌^◌, min, List, [], ◌∷◌, length, take, drop, codes, nat_lt, Bool, ◌==◌, if◌then◌else◌, Result, Ok, Err}
use Rattle.std.specs.Str.{bytes_eq}
use Rattle.byteorder.specs.Endian.{big_number}
use Rattle.exif_types.specs.Refusals.{Refusal, invalid_format, not_found, not_supported}
use Rattle.exif_segments.specs.Answer.{Answer, found, refused}

-- the bytes end in a box, or its data before the TIFF data
abbrev pub broken_jxl : Refusal
broken_jxl = invalid_format (codes "Broken JPEG XL file")

-- the file does not begin as a JPEG XL file does
abbrev pub not_jxl : Refusal
not_jxl = invalid_format (codes "Not a JPEG XL file")

-- a box is shorter than its header
abbrev pub invalid_size : Refusal
invalid_size = invalid_format (codes "Invalid box size")

-- the first Exif data are compressed
abbrev pub compressed_exif : Refusal
compressed_exif = not_supported (codes "Compressed Exif data")

-- no box holds Exif data
abbrev pub no_exif_in_jxl : Refusal
no_exif_in_jxl = not_found (codes "JPEG XL")

-- all refusals of a JPEG XL file
abbrev pub jxl_refusals : List Refusal
jxl_refusals =
    broken_jxl ∷ not_jxl ∷ invalid_size ∷ compressed_exif ∷ no_exif_in_jxl ∷ []

-- a box at an offset: the TIFF data of `Exif` and all that follows the box, or what follows another
pub data Box : Type 0 where
  exif : List ℕ → List ℕ → Box
  other : List ℕ → Box

-- how many bytes of `Exif` come before the TIFF data: the four of the offset, and so many as it
-- says
abbrev pub before_tiff : List ℕ → ℕ
before_tiff body = 4 + big_number 4 body

-- the body of `Exif`
abbrev pub exif_box : List ℕ → List ℕ → Result Box Refusal
exif_box body rest =
    if nat_lt (length body) (before_tiff body) then Err broken_jxl else
    Ok (exif (drop (before_tiff body) body) rest)

-- the body of `brob`: the type of the box that it holds compressed, and the compressed data
abbrev pub brotli_box : List ℕ → List ℕ → Result Box Refusal
brotli_box body rest =
    if nat_lt (length body) 4 then Err broken_jxl else
    if bytes_eq (take 4 body) (codes "Exif") then Err compressed_exif else Ok (other rest)

-- a body, by the type of its box
abbrev pub named_box : List ℕ → List ℕ → List ℕ → Result Box Refusal
named_box name body rest =
    if bytes_eq name (codes "Exif") then exif_box body rest else
    if bytes_eq name (codes "brob") then brotli_box body rest else Ok (other rest)

-- a body of so many bytes, if it is whole
abbrev pub whole_box : List ℕ → ℕ → List ℕ → Result Box Refusal
whole_box name len bytes =
    if nat_lt (length bytes) len then Err broken_jxl else
    named_box name (take len bytes) (drop len bytes)

-- a box of this size, with a header of so many bytes
abbrev pub sized_box : ℕ → ℕ → List ℕ → List ℕ → Result Box Refusal
sized_box header size name bytes =
    if nat_lt size header then Err invalid_size else whole_box name (size - header) bytes

-- a box whose size has eight bytes
abbrev pub large_box : List ℕ → List ℕ → Result Box Refusal
large_box name bytes =
    if nat_lt (length bytes) 8 then Err broken_jxl else
    sized_box 16 (big_number 8 bytes) name (drop 8 bytes)

-- no box follows one that goes to the end
abbrev pub last_of : Result Box Refusal → Result Box Refusal
last_of (Ok (exif tiff rest)) = Ok (exif tiff rest)
last_of (Ok (other rest)) = Err no_exif_in_jxl
last_of (Err r) = Err r

-- what follows the size and the type of a box
abbrev pub headed_box : ℕ → List ℕ → List ℕ → Result Box Refusal
headed_box size name bytes =
    if size == 0 then last_of (named_box name bytes []) else
    if size == 1 then large_box name bytes else sized_box 8 size name bytes

-- the box at an offset
abbrev pub box_at : List ℕ → Result Box Refusal
box_at bytes =
    if length bytes == 0 then Err no_exif_in_jxl else
    if nat_lt (length bytes) 8 then Err broken_jxl else
    headed_box (big_number 4 bytes) (take 4 (drop 4 bytes)) (drop 8 bytes)

-- the answer of a box, or of what follows it
abbrev pub follow : Result Box Refusal → (List ℕ → Answer) → Answer
follow (Ok (exif tiff rest)) next = found tiff rest
follow (Ok (other rest)) next = next rest
follow (Err r) next = refused r

-- the answer of boxes, over at most n of them
abbrev pub answer_within : ℕ → List ℕ → Answer
answer_within zero bytes = refused broken_jxl
answer_within (suc n) bytes = follow (box_at bytes) (answer_within n)

-- so, where n may be large: a box has bytes, so there are no more boxes than bytes
abbrev pub boxes_answer : ℕ → List ℕ → Answer
boxes_answer n bytes = answer_within (min n (suc (length bytes))) bytes

-- how many boxes count; no file has as many
abbrev pub max_boxes : ℕ
max_boxes = 2 ^ 64 - 1

-- the first box of a file in its container
abbrev pub signature : List ℕ
signature = 0 ∷ 0 ∷ 0 ∷ 12 ∷ 0x4a ∷ 0x58 ∷ 0x4c ∷ 0x20 ∷ 13 ∷ 10 ∷ 0x87 ∷ 10 ∷ []

-- whether bytes begin as a file in its container does
abbrev pub begins_jxl : List ℕ → Bool
begins_jxl bytes = bytes_eq (take 12 bytes) signature

-- whether bytes begin as a naked codestream does, which has no metadata
abbrev pub begins_codestream : List ℕ → Bool
begins_codestream bytes = bytes_eq (take 2 bytes) (0xff ∷ 0x0a ∷ [])

-- the answer of a file
abbrev pub jxl_answer : List ℕ → Answer
jxl_answer bytes =
    if begins_codestream bytes then refused no_exif_in_jxl else
    if nat_lt (length bytes) 12 then refused broken_jxl else
    if begins_jxl bytes then boxes_answer max_boxes (drop 12 bytes) else refused not_jxl
