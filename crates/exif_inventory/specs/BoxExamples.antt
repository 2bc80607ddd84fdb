-- Worked examples: the headers of boxes, by bytes written by hand.
use Rattle.std.specs.Prelude.{◌≡◌, refl, ℕ, List, [], ◌∷◌, ◌++◌, codes, Some, None}
use Rattle.exif_inventory.specs.BoxHeaders.{box_header, content_of, head_of}

-- a box of ten bytes, and one byte behind it
abbrev small : List ℕ
small = 0 ∷ 0 ∷ 0 ∷ 10 ∷ codes "freeab" ++ 7 ∷ []

header_of_small : box_header small ≡ Some (record { front = 8; size = Some 10 })
unfolding box_header
header_of_small = refl

head_of_small : head_of small ≡ Some (record { front = 8; len = 10 })
unfolding head_of box_header
head_of_small = refl

content_of_small : content_of (record { front = 8; len = 10 }) small ≡ codes "ab"
content_of_small = refl

-- a box to the end
to_end : box_header (0 ∷ 0 ∷ 0 ∷ 0 ∷ codes "mdatabc") ≡ Some (record { front = 8; size = None })
unfolding box_header
to_end = refl

all_to_end : head_of (0 ∷ 0 ∷ 0 ∷ 0 ∷ codes "mdatabc") ≡ Some (record { front = 8; len = 11 })
unfolding head_of box_header
all_to_end = refl

-- a size of eight bytes: 258, of which two bytes are there
abbrev large : List ℕ
large = 0 ∷ 0 ∷ 0 ∷ 1 ∷ codes "mdat" ++ 0 ∷ 0 ∷ 0 ∷ 0 ∷ 0 ∷ 0 ∷ 1 ∷ 2 ∷ codes "ab"

header_of_large : box_header large ≡ Some (record { front = 16; size = Some 258 })
unfolding box_header
header_of_large = refl

cut_large : head_of large ≡ None
unfolding head_of box_header
cut_large = refl

-- a size of eight bytes that is cut off, and a header that is
short_large : box_header (0 ∷ 0 ∷ 0 ∷ 1 ∷ codes "mdatabcdefg") ≡ None
unfolding box_header
short_large = refl

short : box_header (0 ∷ 0 ∷ 0 ∷ 8 ∷ codes "fre") ≡ None
unfolding box_header
short = refl

-- a size that is less than that of the header
too_small : box_header (0 ∷ 0 ∷ 0 ∷ 7 ∷ codes "free") ≡ Some (record { front = 8; size = Some 7 })
unfolding box_header
too_small = refl

none_too_small : head_of (0 ∷ 0 ∷ 0 ∷ 7 ∷ codes "free") ≡ None
unfolding head_of box_header
none_too_small = refl
