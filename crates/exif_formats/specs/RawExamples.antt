-- Worked examples: what files answer, by bytes written by hand.
use Rattle.std.specs.Prelude.{◌≡◌, refl, ℕ, List, [], ◌∷◌, ◌++◌, codes, replicate, Some, None, Ok, Err}
use Rattle.exif_isobmff.specs.Boxes.{box_at, header_at}
use Rattle.exif_segments.specs.Answer.{found, refused}
use Rattle.exif_segments.specs.Jpeg.{broken_jpeg, no_exif_in_jpeg}
use Rattle.exif_formats.specs.Cr3.{broken_cr3, canon_thumbnail, canon_type, cr3_answer, cr3_thumbnail, held_front, held_in, no_exif_in_cr3, not_cr3}
use Rattle.exif_formats.specs.Raf.{broken_raf, invalid_jpeg_offset, not_raf, raf_answer}

-- ---- RAF

-- a header of 92 bytes with this signature and this offset
abbrev raf_header : List ℕ → ℕ → List ℕ
raf_header signature offset =
    signature ++ (replicate 68 1 ++ (0 ∷ 0 ∷ 0 ∷ offset ∷ 0 ∷ 0 ∷ 0 ∷ 15 ∷ []))

-- a JPEG stream with two bytes of Exif data, and one byte behind them
abbrev stream : List ℕ
stream = 0xff ∷ 0xd8 ∷ 0xff ∷ 0xe1 ∷ 0 ∷ 10 ∷ codes "Exif\0\0" ++ 73 ∷ 42 ∷ 7 ∷ []

raf_found : raf_answer (raf_header (codes "FUJIFILMCCD-RAW ") 92 ++ stream)
    ≡ found (73 ∷ 42 ∷ []) (7 ∷ [])
raf_found = refl

-- three bytes are between the header and the stream
raf_found_behind : raf_answer (raf_header (codes "FUJIFILMCCD-RAW ") 95 ++ 5 ∷ 5 ∷ 5 ∷ stream)
    ≡ found (73 ∷ 42 ∷ []) (7 ∷ [])
raf_found_behind = refl

-- an offset in the header
raf_early : raf_answer (raf_header (codes "FUJIFILMCCD-RAW ") 91 ++ stream)
    ≡ refused invalid_jpeg_offset
raf_early = refl

-- the bytes end before the stream
raf_cut : raf_answer (raf_header (codes "FUJIFILMCCD-RAW ") 108 ++ stream) ≡ refused broken_raf
raf_cut = refl

-- the bytes end where the stream begins
raf_empty : raf_answer (raf_header (codes "FUJIFILMCCD-RAW ") 107 ++ stream) ≡ refused broken_jpeg
raf_empty = refl

-- the stream ends without Exif data
raf_without : raf_answer (raf_header (codes "FUJIFILMCCD-RAW ") 92
    ++ 0xff ∷ 0xd8 ∷ 0xff ∷ 0xd9 ∷ []) ≡ refused no_exif_in_jpeg
raf_without = refl

-- another signature
raf_foreign : raf_answer (raf_header (codes "FUJIFILMCCD-RAX ") 92 ++ stream) ≡ refused not_raf
raf_foreign = refl

-- another signature, and fewer than 92 bytes
raf_short : raf_answer (codes "II*\0") ≡ refused broken_raf
raf_short = refl

-- ---- CR3

-- the first box: 16 bytes
abbrev brand : List ℕ
brand = 0 ∷ 0 ∷ 0 ∷ 16 ∷ codes "ftypcrx " ++ 0 ∷ 0 ∷ 0 ∷ 1 ∷ []

-- `CMT1` of 2 bytes, `CMT2` of 1 and `CMT4` of none, behind another box: 35 bytes
abbrev directories : List ℕ
directories =
    0 ∷ 0 ∷ 0 ∷ 8 ∷ codes "CNCV" ++ (0 ∷ 0 ∷ 0 ∷ 10 ∷ codes "CMT1" ++ (73 ∷ 42 ∷ 0 ∷ 0 ∷ 0 ∷ 9
    ∷ codes "CMT2" ++ (5 ∷ 0 ∷ 0 ∷ 0 ∷ 8 ∷ codes "CMT4")))

-- `uuid` with this type, with boxes of so many bytes in all
abbrev uuid : ℕ → List ℕ → List ℕ → List ℕ
uuid len type boxes = 0 ∷ 0 ∷ 0 ∷ len ∷ codes "uuid" ++ (type ++ boxes)

-- a box before `moov`, and `moov` with another box and then Canon's `uuid`
cr3_found : cr3_answer (brand ++ (0 ∷ 0 ∷ 0 ∷ 9 ∷ codes "free" ++ (7 ∷ 0 ∷ 0 ∷ 0 ∷ 75 ∷ codes "moov"
    ++ (0 ∷ 0 ∷ 0 ∷ 8 ∷ codes "mvhd" ++ (uuid 59 canon_type directories ++ 3 ∷ [])))))
    ≡ Ok (record { primary = 73 ∷ 42 ∷ []; exif = Some (5 ∷ []); gps = Some [] })
unfolding held_in box_at header_at
cr3_found = refl

-- `moov` with a size of 8 bytes, and `uuid` that runs to its end, with `CMT1` alone
cr3_large : cr3_answer (brand ++ (0 ∷ 0 ∷ 0 ∷ 1 ∷ codes "moov" ++ (0 ∷ 0 ∷ 0 ∷ 0 ∷ 0 ∷ 0 ∷ 0 ∷ 50
    ∷ uuid 0 canon_type (0 ∷ 0 ∷ 0 ∷ 10 ∷ codes "CMT1" ++ 73 ∷ 42 ∷ []) ++ 3 ∷ [])))
    ≡ Ok (record { primary = 73 ∷ 42 ∷ []; exif = None; gps = None })
unfolding held_in box_at header_at
cr3_large = refl

-- `moov` that runs to the end of the file; a `uuid` of another type, and one that is too short for
-- a type
cr3_to_end : cr3_answer (brand ++ (0 ∷ 0 ∷ 0 ∷ 0 ∷ codes "moov"
    ++ (uuid 24 (codes "another type 123") [] ++ (uuid 9 (1 ∷ []) []
    ++ uuid 59 canon_type directories))))
    ≡ Ok (record { primary = 73 ∷ 42 ∷ []; exif = Some (5 ∷ []); gps = Some [] })
unfolding held_in box_at header_at
cr3_to_end = refl

-- Canon's `uuid` is longer than `moov`
cr3_overflowing : cr3_answer (brand ++ (0 ∷ 0 ∷ 0 ∷ 66 ∷ codes "moov"
    ++ uuid 59 canon_type directories)) ≡ Err broken_cr3
unfolding held_in box_at header_at
cr3_overflowing = refl

-- a size under that of the header
cr3_small : cr3_answer (brand ++ (0 ∷ 0 ∷ 0 ∷ 7 ∷ codes "moov")) ≡ Err broken_cr3
unfolding held_in box_at header_at
cr3_small = refl

-- a box before `moov` is cut off
cr3_cut : cr3_answer (brand ++ (0 ∷ 0 ∷ 0 ∷ 10 ∷ codes "free" ++ 7 ∷ [])) ≡ Err broken_cr3
unfolding held_in box_at header_at
cr3_cut = refl

-- no `moov`
cr3_without : cr3_answer (brand ++ (0 ∷ 0 ∷ 0 ∷ 0 ∷ codes "mdat" ++ 7 ∷ [])) ≡ Err no_exif_in_cr3
unfolding held_in box_at header_at
cr3_without = refl

-- `CMT2`, and no `CMT1`
cr3_without_primary : cr3_answer (brand ++ (0 ∷ 0 ∷ 0 ∷ 41 ∷ codes "moov"
    ++ uuid 33 canon_type (0 ∷ 0 ∷ 0 ∷ 9 ∷ codes "CMT2" ++ 5 ∷ []))) ≡ Err no_exif_in_cr3
unfolding held_in box_at header_at
cr3_without_primary = refl

-- a first box with its brand behind its end
cr3_brandless : cr3_answer (0 ∷ 0 ∷ 0 ∷ 8 ∷ codes "ftypcrx " ++ 0 ∷ 0 ∷ 0 ∷ 1 ∷ []) ≡ Err broken_cr3
unfolding held_in
cr3_brandless = refl

-- another brand
cr3_foreign : cr3_answer (0 ∷ 0 ∷ 0 ∷ 16 ∷ codes "ftypheic" ++ 0 ∷ 0 ∷ 0 ∷ 0 ∷ []) ≡ Err not_cr3
cr3_foreign = refl

-- ---- thumbnails of CR3 files

-- `THMB` of 160 by 120 pixels, whose data have two bytes, and padding behind them
abbrev thumbnail : List ℕ
thumbnail =
    0 ∷ 0 ∷ 0 ∷ 28 ∷ codes "THMB" ++ (0 ∷ 0 ∷ 0 ∷ 0 ∷ 0 ∷ 160 ∷ 0 ∷ 120 ∷ 0 ∷ 0 ∷ 0 ∷ 2
    ∷ 0 ∷ 1 ∷ 0 ∷ 0 ∷ 0xff ∷ 0xd8 ∷ 0 ∷ 0 ∷ [])

cr3_with_thumbnail : cr3_thumbnail (brand ++ (0 ∷ 0 ∷ 0 ∷ 60 ∷ codes "moov"
    ++ uuid 52 canon_type thumbnail)) ≡ Ok (Some (0xff ∷ 0xd8 ∷ []))
unfolding held_in box_at header_at
cr3_with_thumbnail = refl

no_thumbnail : canon_thumbnail directories ≡ Ok None
unfolding box_at header_at
no_thumbnail = refl

-- the data of 3 bytes are cut off
cut_thumbnail : canon_thumbnail (0 ∷ 0 ∷ 0 ∷ 26 ∷ codes "THMB" ++ (0 ∷ 0 ∷ 0 ∷ 0 ∷ 0 ∷ 160 ∷ 0 ∷ 120
    ∷ 0 ∷ 0 ∷ 0 ∷ 3 ∷ 0 ∷ 1 ∷ 0 ∷ 0 ∷ 0xff ∷ 0xd8 ∷ [])) ≡ Ok None
unfolding box_at header_at
cut_thumbnail = refl

-- ---- boxes beside `moov`

-- a `uuid` of another type, one that is too short for a type, and another box are passed; two bytes
-- are taken
box_of_a_type : held_front (codes "uuid") (codes "the sought type!") 2 (brand
    ++ (uuid 24 (codes "another type 123") [] ++ (uuid 9 (1 ∷ []) [] ++ (0 ∷ 0 ∷ 0 ∷ 8
    ∷ codes "free" ++ (uuid 27 (codes "the sought type!") (7 ∷ 8 ∷ 9 ∷ []) ++ 3 ∷ [])))))
    ≡ Ok (Some (7 ∷ 8 ∷ []))
unfolding held_in box_at header_at
box_of_a_type = refl

no_box_of_a_type : held_front (codes "uuid") (codes "the sought type!") 2 (brand
    ++ uuid 24 (codes "another type 123") []) ≡ Ok None
unfolding held_in box_at header_at
no_box_of_a_type = refl

-- it is cut off
cut_box_of_a_type : held_front (codes "uuid") (codes "the sought type!") 2 (brand
    ++ uuid 28 (codes "the sought type!") (7 ∷ 8 ∷ 9 ∷ [])) ≡ Err broken_cr3
unfolding held_in box_at header_at
cut_box_of_a_type = refl
