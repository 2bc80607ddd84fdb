-- A RAF file, and what it answers. There is no public standard of it: a header of 92 bytes that are
-- read, with the signature first, and at 84 the offset of a JPEG stream from the start of the file.
use Rattle.std.specs.Prelude.{ℕ, ◌-◌, ◌^◌, List, ◌∷◌, length, take, drop, codes, nat_lt, Bool, if◌then◌else◌}
use Rattle.std.specs.Str.{bytes_eq}
use Rattle.byteorder.specs.Endian.{big_number}
use Rattle.exif_types.specs.Refusals.{Refusal, invalid_format}
use Rattle.exif_segments.specs.Answer.{Answer, refused}
use Rattle.exif_segments.specs.Jpeg.{jpeg_answer, jpeg_refusals}

-- the bytes end in the header, or before the JPEG stream
abbrev pub broken_raf : Refusal
broken_raf = invalid_format (codes "Broken RAF file")

-- the file does not begin as a RAF file does
abbrev pub not_raf : Refusal
not_raf = invalid_format (codes "Not a RAF file")

-- the JPEG stream would begin in the header
abbrev pub invalid_jpeg_offset : Refusal
invalid_jpeg_offset = invalid_format (codes "Invalid JPEG offset")

-- all refusals of a RAF file
abbrev pub raf_refusals : List Refusal
raf_refusals = broken_raf ∷ not_raf ∷ invalid_jpeg_offset ∷ jpeg_refusals

-- whether bytes begin as a RAF file does
abbrev pub begins_raf : List ℕ → Bool
begins_raf bytes = bytes_eq (take 16 bytes) (codes "FUJIFILMCCD-RAW ")

-- where the header says that the JPEG stream begins
abbrev pub jpeg_offset : List ℕ → ℕ
jpeg_offset bytes = big_number 4 (drop 84 bytes)

-- the answer of the JPEG stream at this offset, which ends after 2^64 - 1 bytes
abbrev pub stream_answer : ℕ → List ℕ → Answer
stream_answer offset bytes =
    if nat_lt offset 92 then refused invalid_jpeg_offset else
    if nat_lt (length bytes) offset then refused broken_raf else
    jpeg_answer (take (2 ^ 64 - 1) (drop offset bytes))

-- the answer of a file: its header, and then the JPEG stream
abbrev pub raf_answer : List ℕ → Answer
raf_answer bytes =
    if nat_lt (length bytes) 92 then refused broken_raf else
    if begins_raf bytes then stream_answer (jpeg_offset bytes) bytes else refused not_raf

-- what follows the JPEG stream after its 2^64 - 1 bytes
abbrev pub behind_limit : List ℕ → List ℕ
behind_limit bytes = drop (2 ^ 64 - 1) (drop (jpeg_offset bytes) bytes)
