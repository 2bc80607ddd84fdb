-- CR3 files as trees, their bytes, and what makes them valid (ISO/IEC 14496-12:2015, 4.2, 4.3).
use Rattle.std.specs.Prelude.{◌≡◌, ℕ, ◌^◌, ◌<◌, ◌≤◌, List, [], ◌++◌, length, codes, Option, Some, None, Result, Ok, Err}
use Rattle.std.specs.List.{All, flat_map}
use Rattle.byteorder.specs.Endian.{big_number}
use Rattle.exif_types.specs.Refusals.{Refusal}
use Rattle.exif_isobmff.specs.BoxGrammar.{AreBoxes, BoxTree, IsBox, IsNoBox, NoBox, print_box, print_no_box, type_of}
use Rattle.exif_formats.specs.Cr3.{broken_cr3, first_held, movie_of, no_exif_in_cr3, not_cr3, required}

-- ---- a box by its type

-- the box has this type, and holds these bytes behind it
pub record IsOfType (name usertype : List ℕ) (b : BoxTree) (held : List ℕ) : Type 0 where
  pub name_is : type_of b.header ≡ name
  pub body_is : b.body ≡ usertype ++ held

-- the box has another type
abbrev pub IsOther : List ℕ → List ℕ → BoxTree → Type 0
IsOther name usertype b = (held : List ℕ) → IsOfType name usertype b held → ⊥

-- boxes of other types, and then one that holds these bytes, and any bytes; boxes of other types
-- alone; or boxes of other types, and then bytes that begin no box
pub data Boxes : Type 0 where
  with_box : List BoxTree → BoxTree → List ℕ → List ℕ → Boxes
  without : List BoxTree → Boxes
  broken : List BoxTree → NoBox → Boxes

-- the bytes of boxes
abbrev pub print_boxes : Boxes → List ℕ
print_boxes (with_box others b held rest) = flat_map print_box others ++ (print_box b ++ rest)
print_boxes (without others) = flat_map print_box others ++ []
print_boxes (broken others end) = flat_map print_box others ++ print_no_box end

-- they are valid
abbrev pub AreValid : List ℕ → List ℕ → Boxes → Type 0
AreValid name usertype (with_box others b held rest) =
    AreBoxes others (print_box b ++ rest) × All (IsOther name usertype) others × IsBox b rest
    × IsOfType name usertype b held
AreValid name usertype (without others) = AreBoxes others [] × All (IsOther name usertype) others
AreValid name usertype (broken others end) =
    AreBoxes others (print_no_box end) × All (IsOther name usertype) others × IsNoBox end

-- what the first box of the type holds
abbrev pub boxes_answer : Boxes → Result (Option (List ℕ)) Refusal
boxes_answer (with_box others b held rest) = Ok (Some held)
boxes_answer (without others) = Ok None
boxes_answer (broken others end) = Err broken_cr3

-- the first box of a type is found as the tree says
abbrev pub BoxesAreAnswered : List ℕ → List ℕ → Boxes → Type 0
BoxesAreAnswered name usertype bs =
    AreValid name usertype bs → first_held name usertype (print_boxes bs) ≡ boxes_answer bs

-- all bytes are those of boxes, whatever type is sought
abbrev pub AreTheBoxes : List ℕ → List ℕ → List ℕ → Type 0
AreTheBoxes name usertype bytes =
    (bs : Boxes) × AreValid name usertype bs × (print_boxes bs ≡ bytes)

-- ---- the file

-- twelve bytes: the size of the first box, its type, and the major brand
abbrev pub print_brand : List ℕ → List ℕ
print_brand size = size ++ (codes "ftyp" ++ codes "crx ")

-- a file: the first box, with the bytes behind its brand, and other boxes; a first box that runs to
-- the end; one whose size leaves its brand out; one that is cut off; fewer than twelve bytes; or
-- bytes that do not begin as a CR3 file does
pub data Cr3File : Type 0 where
  boxes : List ℕ → List ℕ → Boxes → Cr3File
  to_end : List ℕ → List ℕ → Cr3File
  small : List ℕ → List ℕ → Cr3File
  cut : List ℕ → List ℕ → Cr3File
  short : List ℕ → Cr3File
  foreign : List ℕ → Cr3File

-- the bytes of a file
abbrev pub print_file : Cr3File → List ℕ
print_file (boxes size brands bs) = print_brand size ++ (brands ++ print_boxes bs)
print_file (to_end size rest) = print_brand size ++ rest
print_file (small size rest) = print_brand size ++ rest
print_file (cut size rest) = print_brand size ++ rest
print_file (short bytes) = bytes
print_file (foreign bytes) = bytes

-- these bytes do not begin as a CR3 file does
abbrev pub HasNoBrand : List ℕ → Type 0
HasNoBrand bytes = (size rest : List ℕ) → length size ≡ 4 → bytes ≡ print_brand size ++ rest → ⊥

-- the tree is valid
abbrev pub IsFile : Cr3File → Type 0
IsFile (boxes size brands bs) =
    (length size ≡ 4) × (big_number 4 size ≡ length (print_brand size ++ brands))
    × AreValid (codes "moov") [] bs
IsFile (to_end size rest) = (length size ≡ 4) × (big_number 4 size ≡ 0)
IsFile (small size rest) =
    (length size ≡ 4) × (0 < big_number 4 size) × (big_number 4 size < 12)
IsFile (cut size rest) =
    (length size ≡ 4) × (12 ≤ big_number 4 size)
    × (length (print_brand size ++ rest) < big_number 4 size)
IsFile (short bytes) = length bytes < 12
IsFile (foreign bytes) = (12 ≤ length bytes) × HasNoBrand bytes

-- the payload of the first `moov`, or why there is none
abbrev pub file_movie : Cr3File → Result (List ℕ) Refusal
file_movie (boxes size brands bs) = required (boxes_answer bs)
file_movie (to_end size rest) = Err no_exif_in_cr3
file_movie (small size rest) = Err broken_cr3
file_movie (cut size rest) = Err broken_cr3
file_movie (short bytes) = Err broken_cr3
file_movie (foreign bytes) = Err not_cr3

-- a valid file of fewer than 2^64 bytes has the `moov` that its tree says
abbrev pub FileIsAnswered : Cr3File → Type 0
FileIsAnswered f =
    IsFile f → length (print_file f) < 2 ^ 64 → movie_of (print_file f) ≡ file_movie f

-- all bytes are those of a valid file
abbrev pub IsAFile : List ℕ → Type 0
IsAFile bytes = (f : Cr3File) × IsFile f × (print_file f ≡ bytes)
