-- Worked examples: where reading looks in small files.
use Rattle.std.specs.Prelude.{◌≡◌, ℕ, List, [], ◌∷◌, ◌++◌, codes, take, refl}
use Rattle.exif_tiff.specs.Footprint.{Stretch, footprint}

abbrev stretch : ℕ → ℕ → Stretch
stretch offset len = record { offset = offset; len = len }

-- a header that is wrong
wrong_header : footprint (77 ∷ 73 ∷ 0 ∷ 42 ∷ 0 ∷ 0 ∷ 0 ∷ 8 ∷ []) ≡ stretch 0 8 ∷ []
wrong_header = refl

-- a description that is behind its entry, and five bytes that nothing points to
abbrev described : List ℕ
described =
    77 ∷ 77 ∷ 0 ∷ 42 ∷ 0 ∷ 0 ∷ 0 ∷ 8
    ∷ 0 ∷ 1
    ∷ 1 ∷ 14 ∷ 0 ∷ 2 ∷ 0 ∷ 0 ∷ 0 ∷ 7 ∷ 0 ∷ 0 ∷ 0 ∷ 26
    ∷ 0 ∷ 0 ∷ 0 ∷ 0 ∷ []
    ++ codes "Sample" ++ 0 ∷ codes "extra"

described_footprint : footprint described ≡ stretch 0 8 ∷ stretch 8 18 ∷ stretch 26 7 ∷ []
described_footprint = refl

-- where the description is cut off, it is not looked at
cut_footprint : footprint (take 32 described) ≡ stretch 0 8 ∷ stretch 8 18 ∷ []
cut_footprint = refl

-- an Exif directory whose version is in its entry
abbrev child : List ℕ
child =
    77 ∷ 77 ∷ 0 ∷ 42 ∷ 0 ∷ 0 ∷ 0 ∷ 8
    ∷ 0 ∷ 1
    ∷ 135 ∷ 105 ∷ 0 ∷ 4 ∷ 0 ∷ 0 ∷ 0 ∷ 1 ∷ 0 ∷ 0 ∷ 0 ∷ 26
    ∷ 0 ∷ 0 ∷ 0 ∷ 0
    ∷ 0 ∷ 1
    ∷ 144 ∷ 0 ∷ 0 ∷ 7 ∷ 0 ∷ 0 ∷ 0 ∷ 4 ∷ 48 ∷ 50 ∷ 51 ∷ 49
    ∷ 0 ∷ 0 ∷ 0 ∷ 0 ∷ []

child_footprint : footprint child ≡ stretch 0 8 ∷ stretch 8 18 ∷ stretch 26 18 ∷ []
child_footprint = refl
