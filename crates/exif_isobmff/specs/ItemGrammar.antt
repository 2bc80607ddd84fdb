-- Item information and the Exif item as their standards write them (ISO/IEC 14496-12:2015, 4.2,
-- 8.11.6; ISO/IEC 23008-12:2017, A.2.1): trees, their bytes, and what makes them valid.
use Rattle.std.specs.Prelude.{◌≡◌, ◌≢◌, ◌⊎◌, ℕ, ◌<◌, List, [], ◌∷◌, ◌++◌, length, codes, Result, Ok, Err}
use Rattle.byteorder.specs.Endian.{big_number}
use Rattle.exif_types.specs.Refusals.{Refusal}
use Rattle.exif_isobmff.specs.declared.kind.Kind.TheVariants.{ItemInfoEntry}
use Rattle.exif_isobmff.specs.HeifRefusals.{too_small, unsupported_infe, block_too_small, invalid_header_offset}
use Rattle.exif_isobmff.specs.Boxes.{read_each}
use Rattle.exif_isobmff.specs.BoxGrammar.{Counted, print_counted, IsCounted, counted_parts}
use Rattle.exif_isobmff.specs.Items.{exif_number, exif_numbers}
use Rattle.exif_isobmff.specs.Heif.{after_header}

-- the front of a full box: a byte of version and three of flags
pub record FullHead : Type 0 where
  pub version : ℕ
  pub flags : List ℕ

-- its bytes, and those behind it
abbrev pub print_full : FullHead → List ℕ → List ℕ
print_full h rest = h.version ∷ (h.flags ++ rest)

-- its flags are three bytes
abbrev pub IsFull : FullHead → Type 0
IsFull h = length h.flags ≡ 3

-- ---- an entry: what one item is

-- an entry of an Exif item: its number, two bytes of protection, `Exif`, and any bytes; one of
-- another type; one of a version that is not read; or one that ends early
pub data EntryTree : Type 0 where
  exif : FullHead → List ℕ → List ℕ → List ℕ → EntryTree
  other : FullHead → List ℕ → List ℕ → List ℕ → List ℕ → EntryTree
  unsupported : FullHead → List ℕ → EntryTree
  cut_head : List ℕ → EntryTree
  cut_entry : FullHead → List ℕ → EntryTree

-- the bytes of an entry
abbrev pub print_entry : EntryTree → List ℕ
print_entry (exif h number protection rest) =
    print_full h (number ++ (protection ++ (codes "Exif" ++ rest)))
print_entry (other h number protection type rest) =
    print_full h (number ++ (protection ++ (type ++ rest)))
print_entry (unsupported h rest) = print_full h rest
print_entry (cut_head bytes) = bytes
print_entry (cut_entry h bytes) = print_full h bytes

-- an item's number has two bytes in version 2, and four in version 3
abbrev pub HasNumber : ℕ → ℕ → Type 0
HasNumber version len = ((version ≡ 2) × (len ≡ 2)) ⊎ ((version ≡ 3) × (len ≡ 4))

-- the tree is valid: its fields have their lengths, and its version is what it says
abbrev pub IsEntry : EntryTree → Type 0
IsEntry (exif h number protection rest) =
    IsFull h × HasNumber h.version (length number) × (length protection ≡ 2)
IsEntry (other h number protection type rest) =
    IsFull h × HasNumber h.version (length number) × (length protection ≡ 2)
    × (length type ≡ 4) × (type ≢ codes "Exif")
IsEntry (unsupported h rest) = IsFull h × (h.version ≢ 2) × (h.version ≢ 3)
IsEntry (cut_head bytes) = length bytes < 4
IsEntry (cut_entry h bytes) =
    IsFull h × (((h.version ≡ 2) × (length bytes < 8)) ⊎ ((h.version ≡ 3) × (length bytes < 10)))

-- the number of the Exif item, none, or why it is refused
abbrev pub entry_says : EntryTree → Result (List ℕ) Refusal
entry_says (exif h number protection rest) = Ok (big_number (length number) number ∷ [])
entry_says (other h number protection type rest) = Ok []
entry_says (unsupported h rest) = Err unsupported_infe
entry_says (cut_head bytes) = Err too_small
entry_says (cut_entry h bytes) = Err too_small

-- the bytes of a valid entry are read as its tree says
abbrev pub EntryIsRead : EntryTree → Type 0
EntryIsRead e = IsEntry e → exif_number (print_entry e) ≡ entry_says e

-- all bytes are those of a valid entry
abbrev pub IsAnEntry : List ℕ → Type 0
IsAnEntry bytes = (e : EntryTree) × IsEntry e × (print_entry e ≡ bytes)

-- ---- what the items are

-- a count and so many boxes; or bytes that end before it
pub data InfoTree : Type 0 where
  info : FullHead → List ℕ → Counted → InfoTree
  cut_head : List ℕ → InfoTree
  cut_count : FullHead → List ℕ → InfoTree

-- the bytes of an `iinf`
abbrev pub print_info : InfoTree → List ℕ
print_info (info h count boxes) = print_full h (count ++ print_counted boxes)
print_info (cut_head bytes) = bytes
print_info (cut_count h bytes) = print_full h bytes

-- the count has two bytes in version 0, and four in any other
abbrev pub HasCount : ℕ → ℕ → Type 0
HasCount version len = ((version ≡ 0) × (len ≡ 2)) ⊎ ((version ≢ 0) × (len ≡ 4))

-- the tree is valid: its count has its length and counts its boxes
abbrev pub IsInfo : InfoTree → Type 0
IsInfo (info h count boxes) =
    IsFull h × HasCount h.version (length count) × IsCounted (big_number (length count) count) boxes
IsInfo (cut_head bytes) = length bytes < 4
IsInfo (cut_count h bytes) =
    IsFull h × (((h.version ≡ 0) × (length bytes < 2)) ⊎ ((h.version ≢ 0) × (length bytes < 4)))

-- the Exif items that the entries among the boxes name
abbrev pub info_says : InfoTree → Result (List ℕ) Refusal
info_says (info h count boxes) = read_each ItemInfoEntry exif_number (counted_parts boxes)
info_says (cut_head bytes) = Err too_small
info_says (cut_count h bytes) = Err too_small

-- the bytes of a valid `iinf` are read as its tree says
abbrev pub InfoIsRead : InfoTree → Type 0
InfoIsRead t = IsInfo t → exif_numbers (print_info t) ≡ info_says t

-- all bytes are those of a valid `iinf`
abbrev pub IsAnInfo : List ℕ → Type 0
IsAnInfo bytes = (t : InfoTree) × IsInfo t × (print_info t ≡ bytes)

-- ---- the Exif item

-- four bytes that spell a length, so many bytes that are skipped, and the Exif data; fewer than
-- four bytes; or a length over what is left
pub data BlockTree : Type 0 where
  block : List ℕ → List ℕ → List ℕ → BlockTree
  short : List ℕ → BlockTree
  over : List ℕ → List ℕ → BlockTree

-- the bytes of an Exif item
abbrev pub print_block : BlockTree → List ℕ
print_block (block number skipped payload) = number ++ (skipped ++ payload)
print_block (short bytes) = bytes
print_block (over number bytes) = number ++ bytes

-- the tree is valid: its fields have their lengths
abbrev pub IsBlock : BlockTree → Type 0
IsBlock (block number skipped payload) =
    (length number ≡ 4) × (length skipped ≡ big_number 4 number)
IsBlock (short bytes) = length bytes < 4
IsBlock (over number bytes) = (length number ≡ 4) × (length bytes < big_number 4 number)

-- the Exif data, or why they are refused
abbrev pub block_says : BlockTree → Result (List ℕ) Refusal
block_says (block number skipped payload) = Ok payload
block_says (short bytes) = Err block_too_small
block_says (over number bytes) = Err invalid_header_offset

-- the bytes of a valid Exif item are read as its tree says
abbrev pub BlockIsRead : BlockTree → Type 0
BlockIsRead t = IsBlock t → after_header (print_block t) ≡ block_says t

-- all bytes are those of a valid Exif item
abbrev pub IsABlock : List ℕ → Type 0
IsABlock bytes = (t : BlockTree) × IsBlock t × (print_block t ≡ bytes)
