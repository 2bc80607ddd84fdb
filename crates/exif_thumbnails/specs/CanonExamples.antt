-- Worked examples: the previews of small CR3 files. The layout is that of which the notes of
-- ExifTool say that cameras write it.
use Rattle.std.specs.Prelude.{◌≡◌, refl, ℕ, List, [], ◌∷◌, ◌++◌, codes, Some, None, Ok, Err}
use Rattle.exif_isobmff.specs.Boxes.{box_at, header_at}
use Rattle.exif_formats.specs.Cr3.{broken_cr3, held_in}
use Rattle.exif_thumbnails.specs.Canon.{cr3_preview, preview_in, preview_type}
use Rattle.exif_thumbnails.specs.Seen.{cut_off, jpeg, too_long}

-- the first box, and `moov`
abbrev begun : List ℕ
begun =
    0 ∷ 0 ∷ 0 ∷ 16 ∷ codes "ftypcrx " ++ (0 ∷ 0 ∷ 0 ∷ 1 ∷ 0 ∷ 0 ∷ 0 ∷ 9 ∷ codes "moov" ++ 7 ∷ [])

-- what a `uuid` holds: `PRVW` of 1620 by 1080 pixels, whose data have as many bytes as these four
-- say
abbrev held : List ℕ → List ℕ → List ℕ
held len bytes =
    0 ∷ 0 ∷ 0 ∷ 0 ∷ 0 ∷ 0 ∷ 0 ∷ 1 ∷ 0 ∷ 0 ∷ 0 ∷ 26 ∷ codes "PRVW"
    ++ (0 ∷ 0 ∷ 0 ∷ 0 ∷ 0 ∷ 1 ∷ 0x06 ∷ 0x54 ∷ 0x04 ∷ 0x38 ∷ 0 ∷ 1 ∷ len ++ bytes)

-- a `uuid` of so many bytes with this type
abbrev uuid : ℕ → List ℕ → List ℕ → List ℕ
uuid size type bytes = 0 ∷ 0 ∷ 0 ∷ size ∷ codes "uuid" ++ (type ++ bytes)

-- a `uuid` of another type (that of XMP) and one that is too short for a type come before it, and
-- another box behind it
found : cr3_preview (begun ++ (uuid 25 (0xbe ∷ 0x7a ∷ 0xcf ∷ 0xcb ∷ codes "another type") (5 ∷ [])
    ++ (uuid 9 (0xea ∷ []) [] ++ (uuid 58 preview_type (held (0 ∷ 0 ∷ 0 ∷ 2 ∷ []) (0xff ∷ 0xd8 ∷ []))
    ++ (0 ∷ 0 ∷ 0 ∷ 9 ∷ codes "mdat" ++ 8 ∷ []))))) ≡ Ok (Some (jpeg (0xff ∷ 0xd8 ∷ [])))
unfolding held_in box_at header_at
found = refl

-- there is none
absent : cr3_preview (begun ++ uuid 24 (codes "another type 123") []) ≡ Ok None
unfolding held_in box_at header_at
absent = refl

-- its box is cut off
box_cut : cr3_preview (begun ++ uuid 59 preview_type (held (0 ∷ 0 ∷ 0 ∷ 2 ∷ []) (0xff ∷ 0xd8 ∷ [])))
    ≡ Err broken_cr3
unfolding held_in box_at header_at
box_cut = refl

-- the data are cut off in it, or are of 1 MiB and a byte; a box of another type
cut : preview_in (held (0 ∷ 0 ∷ 0 ∷ 3 ∷ []) (0xff ∷ 0xd8 ∷ [])) ≡ Some cut_off
cut = refl

long : preview_in (held (0 ∷ 16 ∷ 0 ∷ 1 ∷ []) (0xff ∷ 0xd8 ∷ [])) ≡ Some too_long
long = refl

another : preview_in (0 ∷ 0 ∷ 0 ∷ 0 ∷ 0 ∷ 0 ∷ 0 ∷ 1 ∷ 0 ∷ 0 ∷ 0 ∷ 26 ∷ codes "THMB"
    ++ (0 ∷ 0 ∷ 0 ∷ 0 ∷ 0 ∷ 1 ∷ 6 ∷ 84 ∷ 4 ∷ 56 ∷ 0 ∷ 1 ∷ 0 ∷ 0 ∷ 0 ∷ 0 ∷ [])) ≡ None
another = refl
