-- Boxes as their standard writes them (ISO/IEC 14496-12:2015, 4.2): trees, their bytes, and what
-- makes them valid.
use Rattle.std.specs.Prelude.{◌≡◌, ℕ, ◌<◌, List, [], ◌∷◌, ◌++◌, length, map, Some, None, Ok, ⊤}
use Rattle.std.specs.List.{flat_map}
use Rattle.byteorder.specs.Endian.{big_number}
use Rattle.exif_types.specs.Refusals.{Refusal}
use Rattle.exif_isobmff.specs.HeifRefusals.{too_small, invalid_size}
use Rattle.exif_isobmff.specs.Kinds.{kind_of}
use Rattle.exif_isobmff.specs.Boxes.{Part, Parts, whole_part, box_at, boxes, children}

-- the three forms of a header: a size of 4 bytes and a type; 1, a type and a size of 8 bytes; 0 and
-- a type, for a box that runs to the end of what it is in
pub data BoxHeader : Type 0 where
  sized : List ℕ → List ℕ → BoxHeader
  large : List ℕ → List ℕ → List ℕ → BoxHeader
  to_end : List ℕ → List ℕ → BoxHeader

-- the bytes of a header
abbrev pub print_header : BoxHeader → List ℕ
print_header (sized size type) = size ++ type
print_header (large one type size) = one ++ (type ++ size)
print_header (to_end zero type) = zero ++ type

-- the four bytes of a type
abbrev pub type_of : BoxHeader → List ℕ
type_of (sized size type) = type
type_of (large one type size) = type
type_of (to_end zero type) = type

-- how many bytes the box takes in a text of n bytes
abbrev pub said_size : BoxHeader → ℕ → ℕ
said_size (sized size type) n = big_number 4 size
said_size (large one type size) n = big_number 8 size
said_size (to_end zero type) n = n

-- its fields have their lengths, and its size is of its form
abbrev pub IsHeader : BoxHeader → Type 0
IsHeader (sized size type) = (length size ≡ 4) × (length type ≡ 4) × (1 < big_number 4 size)
IsHeader (large one type size) =
    (length one ≡ 4) × (length type ≡ 4) × (length size ≡ 8) × (big_number 4 one ≡ 1)
IsHeader (to_end zero type) = (length zero ≡ 4) × (length type ≡ 4) × (big_number 4 zero ≡ 0)

-- a box: a header and a body
pub record BoxTree : Type 0 where
  pub header : BoxHeader
  pub body : List ℕ

-- the bytes of a box
abbrev pub print_box : BoxTree → List ℕ
print_box b = print_header b.header ++ b.body

-- with these bytes behind it, it is as long as its header says
abbrev pub IsBox : BoxTree → List ℕ → Type 0
IsBox b rest =
    IsHeader b.header × (said_size b.header (length (print_box b ++ rest)) ≡ length (print_box b))

-- what a reader gives for a box
abbrev pub box_part : BoxTree → Part
box_part b = whole_part (kind_of (type_of b.header)) b.body

-- boxes one after the other, with these bytes behind them
abbrev pub AreBoxes : List BoxTree → List ℕ → Type 0
AreBoxes [] rest = ⊤
AreBoxes (b ∷ bs) rest = IsBox b (flat_map print_box bs ++ rest) × AreBoxes bs rest

-- bytes that begin no box: fewer than a header has, a box that is longer than they are, or a size
-- under that of the header
pub data NoBox : Type 0 where
  cut : List ℕ → NoBox
  cut_large : List ℕ → List ℕ → List ℕ → NoBox
  too_long : BoxHeader → List ℕ → NoBox
  too_short : BoxHeader → List ℕ → NoBox

-- those bytes
abbrev pub print_no_box : NoBox → List ℕ
print_no_box (cut bytes) = bytes
print_no_box (cut_large one type bytes) = one ++ (type ++ bytes)
print_no_box (too_long h bytes) = print_header h ++ bytes
print_no_box (too_short h bytes) = print_header h ++ bytes

-- they begin no box in that way
abbrev pub IsNoBox : NoBox → Type 0
IsNoBox (cut bytes) = (0 < length bytes) × (length bytes < 8)
IsNoBox (cut_large one type bytes) =
    (length one ≡ 4) × (length type ≡ 4) × (big_number 4 one ≡ 1) × (length bytes < 8)
IsNoBox (too_long h bytes) =
    IsHeader h × (length (print_header h ++ bytes) < said_size h (length (print_header h ++ bytes)))
IsNoBox (too_short h bytes) =
    IsHeader h × (said_size h (length (print_header h ++ bytes)) < length (print_header h))

-- why they are refused
abbrev pub no_box_refusal : NoBox → Refusal
no_box_refusal (cut bytes) = too_small
no_box_refusal (cut_large one type bytes) = too_small
no_box_refusal (too_long h bytes) = too_small
no_box_refusal (too_short h bytes) = invalid_size

-- what is in a box: boxes that fill it, or boxes and then bytes that begin none
pub data Parent : Type 0 where
  filled : List BoxTree → Parent
  broken : List BoxTree → NoBox → Parent

-- the bytes of what is in a box
abbrev pub print_parent : Parent → List ℕ
print_parent (filled bs) = flat_map print_box bs ++ []
print_parent (broken bs end) = flat_map print_box bs ++ print_no_box end

-- it is valid: each box is whole, and bytes behind them begin none
abbrev pub IsParent : Parent → Type 0
IsParent (filled bs) = AreBoxes bs []
IsParent (broken bs end) = AreBoxes bs (print_no_box end) × IsNoBox end

-- what a reader gives for it
abbrev pub parent_parts : Parent → Parts
parent_parts (filled bs) = record { whole = map box_part bs; fault = None }
parent_parts (broken bs end) = record { whole = map box_part bs; fault = Some (no_box_refusal end) }

-- boxes that are counted: all of them, and then any bytes; or fewer, and then bytes that begin no
-- box, or no more bytes
pub data Counted : Type 0 where
  all : List BoxTree → List ℕ → Counted
  cut_off : List BoxTree → NoBox → Counted
  too_few : List BoxTree → Counted

-- the bytes of counted boxes
abbrev pub print_counted : Counted → List ℕ
print_counted (all bs rest) = flat_map print_box bs ++ rest
print_counted (cut_off bs end) = flat_map print_box bs ++ print_no_box end
print_counted (too_few bs) = flat_map print_box bs ++ []

-- they are valid for a count of n
abbrev pub IsCounted : ℕ → Counted → Type 0
IsCounted n (all bs rest) = (length bs ≡ n) × AreBoxes bs rest
IsCounted n (cut_off bs end) = (length bs < n) × AreBoxes bs (print_no_box end) × IsNoBox end
IsCounted n (too_few bs) = (length bs < n) × AreBoxes bs []

-- what a reader gives for them
abbrev pub counted_parts : Counted → Parts
counted_parts (all bs rest) = record { whole = map box_part bs; fault = None }
counted_parts (cut_off bs end) =
    record { whole = map box_part bs; fault = Some (no_box_refusal end) }
counted_parts (too_few bs) = record { whole = map box_part bs; fault = Some too_small }

-- a box is read as its tree says, and the bytes behind it are left
abbrev pub BoxIsRead : BoxTree → List ℕ → Type 0
BoxIsRead b rest = IsBox b rest → box_at (print_box b ++ rest) ≡ Ok (box_part b, rest)

-- a box that is read is that of a tree
abbrev pub IsABox : List ℕ → Part → List ℕ → Type 0
IsABox text p rest =
    box_at text ≡ Ok (p, rest) → (b : BoxTree) × IsBox b rest × (box_part b ≡ p)
    × (text ≡ print_box b ++ rest)

-- as many boxes as are counted are read, whatever follows them
abbrev pub CountedAreRead : List BoxTree → List ℕ → Type 0
CountedAreRead bs rest =
    AreBoxes bs rest → boxes (length bs) (flat_map print_box bs
    ++ rest) ≡ record { whole = map box_part bs; fault = None }

-- a count of boxes is read as its tree says
abbrev pub CountIsRead : ℕ → Counted → Type 0
CountIsRead n c = IsCounted n c → boxes n (print_counted c) ≡ counted_parts c

-- all bytes are those of a valid tree for any count
abbrev pub IsACount : ℕ → List ℕ → Type 0
IsACount n bytes = (c : Counted) × IsCounted n c × (print_counted c ≡ bytes)

-- what is in a box is read as its tree says
abbrev pub ParentIsRead : Parent → Type 0
ParentIsRead p = IsParent p → children (print_parent p) ≡ parent_parts p

-- all bytes are those of a valid parent
abbrev pub IsAParent : List ℕ → Type 0
IsAParent bytes = (p : Parent) × IsParent p × (print_parent p ≡ bytes)
