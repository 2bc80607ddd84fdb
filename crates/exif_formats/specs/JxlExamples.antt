-- Worked examples: JPEG XL files by bytes written by hand, and what they answer.
use Rattle.std.specs.Prelude.{◌≡◌, refl, ℕ, List, [], ◌∷◌, ◌++◌, codes}
use Rattle.exif_segments.specs.Answer.{found, refused}
use Rattle.exif_formats.specs.Jxl.{broken_jxl, compressed_exif, invalid_size, jxl_answer, no_exif_in_jxl, not_jxl, signature}

-- the box `ftyp` of a file
abbrev ftyp : List ℕ
ftyp = 0 ∷ 0 ∷ 0 ∷ 20 ∷ codes "ftypjxl " ++ 0 ∷ 0 ∷ 0 ∷ 0 ∷ codes "jxl "

-- Exif data behind an offset of 0, and two bytes of the next box
with_exif : jxl_answer (signature ++ ftyp ++ 0 ∷ 0 ∷ 0 ∷ 16 ∷ codes "Exif" ++ 0 ∷ 0 ∷ 0 ∷ 0
    ∷ codes "II*\0" ++ 7 ∷ 8 ∷ [])
    ≡ found (codes "II*\0") (7 ∷ 8 ∷ [])
with_exif = refl

-- an offset of 2, and a size of eight bytes
with_offset : jxl_answer (signature ++ 0 ∷ 0 ∷ 0 ∷ 1 ∷ codes "Exif" ++ 0 ∷ 0 ∷ 0 ∷ 0 ∷ 0 ∷ 0 ∷ 0
    ∷ 26 ∷ 0 ∷ 0 ∷ 0 ∷ 2 ∷ 5 ∷ 6 ∷ codes "MM\0*" ++ [])
    ≡ found (codes "MM\0*") []
with_offset = refl

-- Exif data that go to the end
to_the_end : jxl_answer (signature ++ ftyp ++ 0 ∷ 0 ∷ 0 ∷ 0 ∷ codes "Exif" ++ 0 ∷ 0 ∷ 0 ∷ 1 ∷ 9
    ∷ codes "II*\0")
    ≡ found (codes "II*\0") []
to_the_end = refl

-- compressed Exif data before others
compressed : jxl_answer (signature ++ 0 ∷ 0 ∷ 0 ∷ 14 ∷ codes "brobExif" ++ 1 ∷ 2
    ∷ 0 ∷ 0 ∷ 0 ∷ 12 ∷ codes "Exif" ++ 0 ∷ 0 ∷ 0 ∷ 0 ∷ [])
    ≡ refused compressed_exif
compressed = refl

-- compressed XMP, and then a codestream that goes to the end
compressed_xmp : jxl_answer (signature ++ 0 ∷ 0 ∷ 0 ∷ 14 ∷ codes "brobxml " ++ 1 ∷ 2
    ∷ 0 ∷ 0 ∷ 0 ∷ 0 ∷ codes "jxlc" ++ 0xff ∷ 0x0a ∷ [])
    ≡ refused no_exif_in_jxl
compressed_xmp = refl

-- the offset is behind the end of the box
offset_outside : jxl_answer (signature ++ 0 ∷ 0 ∷ 0 ∷ 13 ∷ codes "Exif" ++ 0 ∷ 0 ∷ 0 ∷ 2 ∷ 1
    ∷ 2 ∷ 3 ∷ [])
    ≡ refused broken_jxl
offset_outside = refl

-- a box that is skipped ends too early
cut_box : jxl_answer (signature ++ 0 ∷ 0 ∷ 0 ∷ 11 ∷ codes "jxlc" ++ 1 ∷ 2 ∷ []) ≡ refused broken_jxl
cut_box = refl

-- a box of seven bytes
small_box : jxl_answer (signature ++ 0 ∷ 0 ∷ 0 ∷ 7 ∷ codes "Exif") ≡ refused invalid_size
small_box = refl

-- a naked codestream, and a file of another format
naked : jxl_answer (0xff ∷ 0x0a ∷ []) ≡ refused no_exif_in_jxl
naked = refl

of_webp : jxl_answer (codes "RIFF" ++ 4 ∷ 0 ∷ 0 ∷ 0 ∷ codes "WEBP") ≡ refused not_jxl
of_webp = refl

-- compressed Exif data that go to the end, and ones that are cut off
compressed_last : jxl_answer (signature ++ 0 ∷ 0 ∷ 0 ∷ 0 ∷ codes "brobExif" ++ 1 ∷ [])
    ≡ refused compressed_exif
compressed_last = refl

compressed_cut : jxl_answer (signature ++ 0 ∷ 0 ∷ 0 ∷ 14 ∷ codes "brobExif" ++ 1 ∷ [])
    ≡ refused broken_jxl
compressed_cut = refl

-- a size of eight bytes that does not count its own header, and a header that is cut off
small_large_box : jxl_answer (signature ++ 0 ∷ 0 ∷ 0 ∷ 1 ∷ codes "xml " ++ 0 ∷ 0 ∷ 0 ∷ 0 ∷ 0 ∷ 0
    ∷ 0 ∷ 15 ∷ [])
    ≡ refused invalid_size
small_large_box = refl

cut_header : jxl_answer (signature ++ 0 ∷ 0 ∷ 0 ∷ 9 ∷ codes "xml") ≡ refused broken_jxl
cut_header = refl

-- nothing follows the signature
only_signature : jxl_answer signature ≡ refused no_exif_in_jxl
only_signature = refl
