-- Worked examples: the previews that the directories of small data name.
use Rattle.std.specs.Prelude.{◌≡◌, refl, ℕ, List, [], ◌∷◌, ◌++◌, true, false}
use Rattle.exif_edit_base.specs.GpsOffsets.{all_directories, chain_from, children_from, pointers}
use Rattle.exif_thumbnails.specs.Previews.{previews_in}
use Rattle.exif_thumbnails.specs.Streams.{begins_stream}

-- one directory, at 8, with a pointer to a SubIFD (tag 330) at 26
abbrev begun : List ℕ
begun =
    77 ∷ 77 ∷ 0 ∷ 42 ∷ 0 ∷ 0 ∷ 0 ∷ 8
    ∷ 0 ∷ 1
    ∷ 1 ∷ 74 ∷ 0 ∷ 4 ∷ 0 ∷ 0 ∷ 0 ∷ 1 ∷ 0 ∷ 0 ∷ 0 ∷ 26
    ∷ 0 ∷ 0 ∷ 0 ∷ 0 ∷ []

-- a SubIFD with tags 0x201 and 0x202: 4 bytes at 56
abbrev named : List ℕ
named =
    begun
    ++ (0 ∷ 2
    ∷ 2 ∷ 1 ∷ 0 ∷ 4 ∷ 0 ∷ 0 ∷ 0 ∷ 1 ∷ 0 ∷ 0 ∷ 0 ∷ 56
    ∷ 2 ∷ 2 ∷ 0 ∷ 4 ∷ 0 ∷ 0 ∷ 0 ∷ 1 ∷ 0 ∷ 0 ∷ 0 ∷ 4
    ∷ 0 ∷ 0 ∷ 0 ∷ 0
    ∷ 0xff ∷ 0xd8 ∷ 0xff ∷ 0xd9 ∷ [])

in_a_child : previews_in named false ≡ record { offset = 56; len = 4 } ∷ []
unfolding all_directories children_from chain_from pointers
in_a_child = refl

-- a SubIFD with a picture: this compression, this interpretation, and this many strips, of which
-- the first is of 4 bytes at 80
abbrev picture : ℕ → ℕ → ℕ → List ℕ
picture compression interpretation strips =
    begun
    ++ (0 ∷ 4
    ∷ 1 ∷ 3 ∷ 0 ∷ 3 ∷ 0 ∷ 0 ∷ 0 ∷ 1 ∷ 0 ∷ compression ∷ 0 ∷ 0
    ∷ 1 ∷ 6 ∷ 0 ∷ 3 ∷ 0 ∷ 0 ∷ 0 ∷ 1 ∷ 0 ∷ interpretation ∷ 0 ∷ 0
    ∷ 1 ∷ 17 ∷ 0 ∷ 3 ∷ 0 ∷ 0 ∷ 0 ∷ strips ∷ 0 ∷ 80 ∷ 0 ∷ 84
    ∷ 1 ∷ 23 ∷ 0 ∷ 3 ∷ 0 ∷ 0 ∷ 0 ∷ strips ∷ 0 ∷ 4 ∷ 0 ∷ 4
    ∷ 0 ∷ 0 ∷ 0 ∷ 0
    ∷ 0xff ∷ 0xd8 ∷ 0xff ∷ 0xd9 ∷ [])

-- JPEG (7) in YCbCr (6)
in_a_strip : previews_in (picture 7 6 1) false ≡ record { offset = 80; len = 4 } ∷ []
unfolding all_directories children_from chain_from pointers
in_a_strip = refl

-- the same without compression (1), of grey values (1), or in two strips
uncompressed : previews_in (picture 1 6 1) false ≡ []
unfolding all_directories children_from chain_from pointers
uncompressed = refl

grey : previews_in (picture 7 1 1) false ≡ []
unfolding all_directories children_from chain_from pointers
grey = refl

in_two_strips : previews_in (picture 7 6 2) false ≡ []
unfolding all_directories children_from chain_from pointers
in_two_strips = refl

-- a stream, and bytes without a marker behind SOI
begun_so : begins_stream (0xff ∷ 0xd8 ∷ 0xff ∷ 0xd9 ∷ []) ≡ true
begun_so = refl

not_begun_so : begins_stream (0xff ∷ 0xd8 ∷ 0 ∷ []) ≡ false
not_begun_so = refl
