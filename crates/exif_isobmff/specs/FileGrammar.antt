-- The boxes of a HEIF file up to its `meta`, as their standards write them (ISO/IEC 14496-12:2015,
-- 4.2, 4.3, 8.11.1; ISO/IEC 23008-12:2017, B.4): trees, their bytes, and what makes them valid.
use Rattle.std.specs.Prelude.{◌≡◌, ◌≢◌, ◌⊎◌, ℕ, ◌-◌, ◌<◌, ◌≤◌, ◌^◌, nat_le, if◌then◌else◌, Bool, true, false, List, [], ◌∷◌, ◌++◌, length, map, codes, None, Result, Ok, Err, ⊤}
use Rattle.std.specs.List.{All, flat_map, list_any}
use Rattle.exif_types.specs.Refusals.{Refusal}
use Rattle.exif_isobmff.specs.HeifRefusals.{broken_file, too_small, invalid_size, no_brand, seek_too_large, meta_before_ftyp, no_exif}
use Rattle.exif_isobmff.specs.Kinds.{kind_of}
use Rattle.exif_isobmff.specs.Boxes.{Parts, ended}
use Rattle.exif_isobmff.specs.HeifFile.{brand_checked, file_boxes, meta_body}
use Rattle.exif_isobmff.specs.BoxGrammar.{BoxHeader, print_header, type_of, said_size, BoxTree, print_box, IsBox, box_part, NoBox, cut, cut_large, too_long, too_short, print_no_box, IsNoBox, Parent, filled, broken, print_parent, IsParent}

-- ---- all boxes of a file: the last may be longer than the file

-- how long the body of a box is to be, with these bytes behind its header
abbrev pub said_len : BoxHeader → List ℕ → ℕ
said_len h bytes = said_size h (length (print_header h ++ bytes)) - length (print_header h)

-- a box that is longer than the file is one, as far as it is there
abbrev pub end_parts : NoBox → Parts
end_parts (cut bytes) = ended broken_file
end_parts (cut_large one type bytes) = ended broken_file
end_parts (too_long h bytes) = record {
  whole = record { kind = kind_of (type_of h); len = said_len h bytes; body = bytes } ∷ [];
  fault = None;
}
end_parts (too_short h bytes) = ended invalid_size

-- what a reader gives for the boxes of a file
abbrev pub file_parts : Parent → Parts
file_parts (filled bs) = record { whole = map box_part bs; fault = None }
file_parts (broken bs end) =
    record { whole = map box_part bs ++ (end_parts end).whole; fault = (end_parts end).fault }

-- the boxes of a file are read as their tree says
abbrev pub FileBoxesAreRead : Parent → Type 0
FileBoxesAreRead p = IsParent p → file_boxes (print_parent p) ≡ file_parts p

-- ---- what an `ftyp` lists: eight bytes, and then brands of four bytes

-- brands, one of HEIF, and any bytes; brands that are none of HEIF, and fewer than four bytes; or
-- fewer than eight bytes
pub data BrandsTree : Type 0 where
  known : List ℕ → List (List ℕ) → List ℕ → List ℕ → BrandsTree
  unknown : List ℕ → List (List ℕ) → List ℕ → BrandsTree
  short : List ℕ → BrandsTree

-- the bytes of brands, one after the other
abbrev pub print_list : List (List ℕ) → List ℕ
print_list brands = flat_map (λ brand. brand) brands

-- the bytes of the body of an `ftyp`
abbrev pub print_brands : BrandsTree → List ℕ
print_brands (known front brands brand rest) = front ++ (print_list brands ++ (brand ++ rest))
print_brands (unknown front brands rest) = front ++ (print_list brands ++ rest)
print_brands (short bytes) = bytes

-- a brand of HEIF
abbrev pub IsHeifBrand : List ℕ → Type 0
IsHeifBrand brand = (brand ≡ codes "mif1") ⊎ (brand ≡ codes "msf1")

-- a brand of another standard
pub record IsForeign (brand : List ℕ) : Type 0 where
  pub four : length brand ≡ 4
  pub foreign : IsHeifBrand brand → ⊥

-- the tree is valid: its fields have their lengths, and its brands are what it says
abbrev pub AreBrands : BrandsTree → Type 0
AreBrands (known front brands brand rest) =
    (length front ≡ 8) × All IsForeign brands × IsHeifBrand brand
AreBrands (unknown front brands rest) =
    (length front ≡ 8) × All IsForeign brands × (length rest < 4)
AreBrands (short bytes) = length bytes < 8

-- whether the brands are accepted, or why not
abbrev pub brands_say : BrandsTree → Result (Unit {0}) Refusal
brands_say (known front brands brand rest) = Ok tt
brands_say (unknown front brands rest) = Err no_brand
brands_say (short bytes) = Err too_small

-- the tree of these bytes says this
abbrev pub BrandsSay : List ℕ → Result (Unit {0}) Refusal → Type 0
BrandsSay bytes said =
    (t : BrandsTree) × AreBrands t × (print_brands t ≡ bytes) × (brands_say t ≡ said)

-- the brands of a valid tree are checked as it says
abbrev pub BrandsAreChecked : BrandsTree → Type 0
BrandsAreChecked t = AreBrands t → brand_checked (print_brands t) ≡ brands_say t

-- all bytes are those of a valid tree
abbrev pub IsABrands : List ℕ → Type 0
IsABrands bytes = (t : BrandsTree) × AreBrands t × (print_brands t ≡ bytes)

-- ---- the boxes up to `meta`

-- the header of a `meta`
abbrev pub IsMeta : BoxHeader → Type 0
IsMeta h = type_of h ≡ codes "meta"

-- the header of an `ftyp`
abbrev pub IsFtyp : BoxHeader → Type 0
IsFtyp h = type_of h ≡ codes "ftyp"

-- the header of a box of any other type
abbrev pub IsOther : BoxHeader → Type 0
IsOther h = (type_of h ≢ codes "ftyp") × (type_of h ≢ codes "meta")

-- a box that is skipped: an `ftyp` with a brand of HEIF, or one of another type that is not too
-- large
pub data Passed : Type 0 where
  ftyp : BoxTree → Passed
  other : BoxTree → Passed

-- the box itself
abbrev pub passed_box : Passed → BoxTree
passed_box (ftyp b) = b
passed_box (other b) = b

-- it is one that is skipped
abbrev pub IsPassed : Passed → Type 0
IsPassed (ftyp b) = IsFtyp b.header × BrandsSay b.body (Ok tt)
IsPassed (other b) = IsOther b.header × (length b.body < 2 ^ 63)

-- whether it is an `ftyp`
abbrev pub is_ftyp : Passed → Bool
is_ftyp (ftyp b) = true
is_ftyp (other b) = false

-- its bytes
abbrev pub print_passed : Passed → List ℕ
print_passed p = print_box (passed_box p)

-- boxes that are skipped, with these bytes behind them
abbrev pub ArePassed : List Passed → List ℕ → Type 0
ArePassed [] rest = ⊤
ArePassed (p ∷ ps) rest =
    IsBox (passed_box p) (flat_map print_passed ps ++ rest) × IsPassed p × ArePassed ps rest

-- what ends them: the `meta`, an `ftyp` that is refused or a box that is too large, each whole and
-- with any bytes behind it; one that is longer than the file; bytes that begin no box; or no more
-- bytes
pub data FileEnd : Type 0 where
  meta : BoxTree → List ℕ → FileEnd
  wrong_ftyp : BoxTree → Refusal → List ℕ → FileEnd
  large : BoxTree → List ℕ → FileEnd
  cut_meta : BoxHeader → List ℕ → FileEnd
  cut_ftyp : BoxHeader → List ℕ → FileEnd
  cut_other : BoxHeader → List ℕ → FileEnd
  no_header : NoBox → FileEnd
  no_meta : FileEnd

-- the bytes of what ends the boxes
abbrev pub print_file_end : FileEnd → List ℕ
print_file_end (meta b rest) = print_box b ++ rest
print_file_end (wrong_ftyp b r rest) = print_box b ++ rest
print_file_end (large b rest) = print_box b ++ rest
print_file_end (cut_meta h bytes) = print_header h ++ bytes
print_file_end (cut_ftyp h bytes) = print_header h ++ bytes
print_file_end (cut_other h bytes) = print_header h ++ bytes
print_file_end (no_header end) = print_no_box end
print_file_end no_meta = []

-- bytes that begin no header of a box, or one with too small a size
abbrev pub IsHeadless : NoBox → Type 0
IsHeadless (cut bytes) = IsNoBox (cut bytes)
IsHeadless (cut_large one type bytes) = IsNoBox (cut_large one type bytes)
IsHeadless (too_long h bytes) = ⊥
IsHeadless (too_short h bytes) = IsNoBox (too_short h bytes)

-- why bytes without a header are refused
abbrev pub headless_refusal : NoBox → Refusal
headless_refusal (cut bytes) = broken_file
headless_refusal (cut_large one type bytes) = broken_file
headless_refusal (too_long h bytes) = broken_file
headless_refusal (too_short h bytes) = invalid_size

-- it is valid
abbrev pub IsFileEnd : FileEnd → Type 0
IsFileEnd (meta b rest) = IsBox b rest × IsMeta b.header
IsFileEnd (wrong_ftyp b r rest) = IsBox b rest × IsFtyp b.header × BrandsSay b.body (Err r)
IsFileEnd (large b rest) = IsBox b rest × IsOther b.header × (2 ^ 63 ≤ length b.body)
IsFileEnd (cut_meta h bytes) = IsNoBox (too_long h bytes) × IsMeta h
IsFileEnd (cut_ftyp h bytes) = IsNoBox (too_long h bytes) × IsFtyp h
IsFileEnd (cut_other h bytes) = IsNoBox (too_long h bytes) × IsOther h
IsFileEnd (no_header end) = IsHeadless end
IsFileEnd no_meta = ⊤

-- what it says, where an `ftyp` is before it or not
abbrev pub end_says : Bool → FileEnd → Result (List ℕ) Refusal
end_says seen (meta b rest) = if seen then Ok b.body else Err meta_before_ftyp
end_says seen (wrong_ftyp b r rest) = Err r
end_says seen (large b rest) = Err seek_too_large
end_says seen (cut_meta h bytes) = if seen then Err broken_file else Err meta_before_ftyp
end_says seen (cut_ftyp h bytes) = Err broken_file
end_says seen (cut_other h bytes) =
    if nat_le (2 ^ 63) (said_len h bytes) then Err seek_too_large else Err no_exif
end_says seen (no_header end) = Err (headless_refusal end)
end_says seen no_meta = Err no_exif

-- boxes that are skipped, and what ends them
pub record FrontTree : Type 0 where
  pub passed : List Passed
  pub end : FileEnd

-- the bytes of a file
abbrev pub print_front : FrontTree → List ℕ
print_front t = flat_map print_passed t.passed ++ print_file_end t.end

-- the tree is valid
abbrev pub IsFront : FrontTree → Type 0
IsFront t = ArePassed t.passed (print_file_end t.end) × IsFileEnd t.end

-- the body of the `meta`, or why there is none
abbrev pub front_says : FrontTree → Result (List ℕ) Refusal
front_says t = end_says (list_any is_ftyp t.passed) t.end

-- the `meta` of a file is what the tree of the file's boxes says
abbrev pub MetaIsFound : FrontTree → Type 0
MetaIsFound t = IsFront t → meta_body (print_front t) ≡ front_says t

-- all bytes are those of a valid tree
abbrev pub IsAFront : List ℕ → Type 0
IsAFront bytes = (t : FrontTree) × IsFront t × (print_front t ≡ bytes)
