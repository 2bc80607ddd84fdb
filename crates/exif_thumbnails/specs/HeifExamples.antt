-- Worked examples: the thumbnails that small lists of boxes name.
use Rattle.std.specs.Prelude.{◌≡◌, refl, ℕ, List, [], ◌∷◌, ◌++◌, codes, Some, None}
use Rattle.exif_isobmff.specs.Boxes.{box_at, header_at, times}
use Rattle.exif_isobmff.specs.ItemLocations.{extent_at, item_head_at, location_at, locations}
use Rattle.exif_thumbnails.specs.Heif.{at, coding_of, entry_in, jpeg_found, known, thumbnail_item}
use Rattle.exif_thumbnails.specs.Seen.{cut_off, item, jpeg}
use Rattle.exif_thumbnails.specs.declared.heif.Coding.TheVariants.{Hevc, Jpeg}

-- item 1 is the primary one, and item 2 is from which a `thmb` is to item 1
abbrev primary : List ℕ
primary = 0 ∷ 0 ∷ 0 ∷ 14 ∷ codes "pitm" ++ (0 ∷ 0 ∷ 0 ∷ 0 ∷ 0 ∷ 1 ∷ [])

abbrev references : ℕ → List ℕ
references to =
    0 ∷ 0 ∷ 0 ∷ 26 ∷ codes "iref" ++ (0 ∷ 0 ∷ 0 ∷ 0
    ∷ 0 ∷ 0 ∷ 0 ∷ 14 ∷ codes "thmb" ++ (0 ∷ 2 ∷ 0 ∷ 1 ∷ 0 ∷ to ∷ []))

-- entries of both: a coded picture, and a hidden one
abbrev list : List ℕ
list =
    0 ∷ 0 ∷ 0 ∷ 56 ∷ codes "iinf" ++ (0 ∷ 0 ∷ 0 ∷ 0 ∷ 0 ∷ 2
    ∷ 0 ∷ 0 ∷ 0 ∷ 21 ∷ codes "infe" ++ (2 ∷ 0 ∷ 0 ∷ 0 ∷ 0 ∷ 1 ∷ 0 ∷ 0 ∷ codes "av01" ++ (0
    ∷ 0 ∷ 0 ∷ 0 ∷ 21 ∷ codes "infe" ++ (2 ∷ 0 ∷ 0 ∷ 1 ∷ 0 ∷ 2 ∷ 0 ∷ 0 ∷ codes "hvc1" ++ 0 ∷ []))))

named : thumbnail_item (primary ++ references 1) ≡ Some (0 ∷ 2 ∷ [])
unfolding box_at header_at
named = refl

of_another : thumbnail_item (primary ++ references 3) ≡ None
unfolding box_at header_at
of_another = refl

unnamed : thumbnail_item primary ≡ None
unfolding box_at header_at
unnamed = refl

hidden_entry : entry_in list (0 ∷ 2 ∷ []) ≡ Some (0 ∷ 0 ∷ codes "hvc1" ++ 0 ∷ [])
unfolding box_at header_at
hidden_entry = refl

no_entry : entry_in list (0 ∷ 3 ∷ []) ≡ None
unfolding box_at header_at
no_entry = refl

its_coding : coding_of (0 ∷ 0 ∷ codes "hvc1" ++ 0 ∷ []) ≡ Some Hevc
its_coding = refl

-- ---- an item of the type `jpeg`

-- the same list with such an item
abbrev jpeg_list : List ℕ
jpeg_list =
    0 ∷ 0 ∷ 0 ∷ 35 ∷ codes "iinf" ++ (0 ∷ 0 ∷ 0 ∷ 0 ∷ 0 ∷ 1
    ∷ 0 ∷ 0 ∷ 0 ∷ 21 ∷ codes "infe" ++ (2 ∷ 0 ∷ 0 ∷ 1 ∷ 0 ∷ 2 ∷ 0 ∷ 0 ∷ codes "jpeg" ++ 0 ∷ []))

-- `iloc` of version 1 with offsets, lengths and a base of 4 bytes: item 2, by this method, with a
-- base of 16 and so many extents
abbrev located : ℕ → ℕ → ℕ → List ℕ → List ℕ
located size method count extents =
    0 ∷ 0 ∷ 0 ∷ size ∷ codes "iloc" ++ (1 ∷ 0 ∷ 0 ∷ 0 ∷ 0x44 ∷ 0x40 ∷ 0 ∷ 1
    ∷ 0 ∷ 2 ∷ 0 ∷ method ∷ 0 ∷ 0 ∷ 0 ∷ 0 ∷ 0 ∷ 16 ∷ 0 ∷ count ∷ extents)

-- an extent at 5 behind the base, of so many bytes
abbrev extent : ℕ → List ℕ
extent len = 0 ∷ 0 ∷ 0 ∷ 5 ∷ 0 ∷ 0 ∷ 0 ∷ len ∷ []

-- in the file
in_the_file : jpeg_found (jpeg_list ++ located 36 0 1 (extent 3)) (0 ∷ 2 ∷ [])
    ≡ at (record { offset = 21; len = 3 })
unfolding box_at header_at locations times location_at item_head_at extent_at
in_the_file = refl

-- in `idat`, of 24 bytes, and cut off there
idat : List ℕ
idat = 0 ∷ 0 ∷ 0 ∷ 32 ∷ codes "idat" ++ (codes "abcdefghijklmnopqrstu" ++ (0xff ∷ 0xd8 ∷ 0xff ∷ []))

in_idat : jpeg_found (located 36 1 1 (extent 3) ++ idat) (0 ∷ 2 ∷ [])
    ≡ known (jpeg (0xff ∷ 0xd8 ∷ 0xff ∷ []))
unfolding box_at header_at locations times location_at item_head_at extent_at idat
in_idat = refl

cut_in_idat : jpeg_found (located 36 1 1 (extent 4) ++ idat) (0 ∷ 2 ∷ []) ≡ known cut_off
unfolding box_at header_at locations times location_at item_head_at extent_at idat
cut_in_idat = refl

-- in two extents, up to the end, or without a location: not read
in_two : jpeg_found (located 44 0 2 (extent 3 ++ extent 3)) (0 ∷ 2 ∷ []) ≡ known (item Jpeg)
unfolding box_at header_at locations times location_at item_head_at extent_at
in_two = refl

to_the_end : jpeg_found (located 36 0 1 (extent 0)) (0 ∷ 2 ∷ []) ≡ known (item Jpeg)
unfolding box_at header_at locations times location_at item_head_at extent_at
to_the_end = refl

without : jpeg_found (located 36 0 1 (extent 3)) (0 ∷ 3 ∷ []) ≡ known (item Jpeg)
unfolding box_at header_at locations times location_at item_head_at extent_at
without = refl
