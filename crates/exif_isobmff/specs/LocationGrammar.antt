-- Item locations, and an item as its extents, as the standard writes them (ISO/IEC 14496-12:2015,
-- 8.11.3): trees, their bytes, and what makes them valid.
use Rattle.std.specs.Prelude.{◌≡◌, ◌⊎◌, ℕ, ◌+◌, ◌*◌, ◌%◌, ◌^◌, ◌<◌, ◌≤◌, ◌==◌, if◌then◌else◌, List, [], ◌∷◌, ◌++◌, length, map, slice_index, Result, Ok, ⊤}
use Rattle.std.specs.List.{All, flat_map}
use Rattle.byteorder.specs.Endian.{big_number}
use Rattle.exif_types.specs.Refusals.{Refusal}
use Rattle.exif_isobmff.specs.declared.extents.Within.{Within}
use Rattle.exif_isobmff.specs.declared.extents.Within.TheVariants.{File, ItemDataBox}
use Rattle.exif_isobmff.specs.declared.locations.Extent.{Extent}
use Rattle.exif_isobmff.specs.declared.locations.Sizes.{Sizes}
use Rattle.exif_isobmff.specs.ItemGrammar.{FullHead, print_full, IsFull}
use Rattle.exif_isobmff.specs.ItemLocations.{ItemExtents, locations, extent_bytes, gathered}

-- a field of 0, 4 or 8 bytes
abbrev pub IsSize : ℕ → Type 0
IsSize n = (n ≡ 0) ⊎ ((n ≡ 4) ⊎ (n ≡ 8))

-- ---- an extent: an index, an offset and a length, of so many bytes each

-- the fields of an extent
pub record ExtentTree : Type 0 where
  pub index : List ℕ
  pub offset : List ℕ
  pub len : List ℕ

-- the bytes of an extent
abbrev pub print_extent : ExtentTree → List ℕ
print_extent e = e.index ++ (e.offset ++ e.len)

-- the fields are as long as the sizes say
pub record IsExtent (s : Sizes) (e : ExtentTree) : Type 0 where
  pub index : length e.index ≡ s.index
  pub offset : length e.offset ≡ s.offset
  pub len : length e.len ≡ s.len

-- the extent that the fields spell
abbrev pub extent_of : ExtentTree → Extent
extent_of e =
    record { offset = big_number (length e.offset) e.offset; len = big_number (length e.len) e.len }

-- ---- an item: its number, its construction, where its data are, a base, a count, and its extents

-- the fields of an item
pub record LocationTree : Type 0 where
  pub number : List ℕ
  pub method : List ℕ
  pub reference : List ℕ
  pub base : List ℕ
  pub count : List ℕ
  pub extents : List ExtentTree

-- the bytes of an item
abbrev pub print_location : LocationTree → List ℕ
print_location p =
    p.number ++ (p.method
    ++ (p.reference ++ (p.base ++ (p.count ++ flat_map print_extent p.extents))))

-- a number of items, or an item's own, has four bytes in version 2, and else two
abbrev pub number_len : ℕ → ℕ
number_len version = if version == 2 then 4 else 2

-- how an item is put together takes two bytes, but none in version 0
abbrev pub method_len : ℕ → ℕ
method_len version = if version == 0 then 0 else 2

-- the low 4 bits of two bytes; in version 0 an item is put together of the file
abbrev pub method_said : ℕ → List ℕ → ℕ
method_said version method = if version == 0 then 0 else slice_index method 1 % 16

-- the item has the wanted number
abbrev pub IsWanted : ℕ → LocationTree → Type 0
IsWanted wanted p = big_number (length p.number) p.number ≡ wanted

-- only extents of the wanted item are numbers, so only those need a size of 0, 4 or 8
pub record IsLocation (wanted version : ℕ) (s : Sizes) (p : LocationTree) : Type 0 where
  pub number : length p.number ≡ number_len version
  pub method : length p.method ≡ method_len version
  pub reference : length p.reference ≡ 2
  pub in_file : method_said version p.method ≡ 0 → big_number 2 p.reference ≡ 0
  pub base : length p.base ≡ s.base
  pub base_size : IsSize s.base
  pub count : length p.count ≡ 2
  pub counted : big_number 2 p.count ≡ length p.extents
  pub extents : All (IsExtent s) p.extents
  pub sized : IsWanted wanted p → 0 < length p.extents
      → IsSize s.index × IsSize s.offset × IsSize s.len

-- the offset that the fields spell
abbrev pub location_of : ℕ → LocationTree → ItemExtents
location_of version p =
    record {
      method = method_said version p.method;
      base = big_number (length p.base) p.base;
      extents = map extent_of p.extents;
    }

-- where the item is, if it is the wanted one
abbrev pub location_said : ℕ → ℕ → LocationTree → List ItemExtents
location_said wanted version p =
    if big_number (length p.number) p.number == wanted then location_of version p ∷ [] else []

-- ---- an `iloc`: two bytes of sizes, a count, items, and any bytes

-- the fields of an `iloc`
pub record LocationsTree : Type 0 where
  pub head : FullHead
  pub packed : List ℕ
  pub sizes : Sizes
  pub count : List ℕ
  pub items : List LocationTree
  pub rest : List ℕ

-- the bytes of an `iloc`
abbrev pub print_locations : LocationsTree → List ℕ
print_locations t =
    print_full t.head (t.packed ++ (t.count ++ (flat_map print_location t.items ++ t.rest)))

-- two bytes spell four numbers of 4 bits
pub record ArePacked (packed : List ℕ) (s : Sizes) : Type 0 where
  pub two : length packed ≡ 2
  pub spelt : big_number 2 packed ≡ 4096 * s.offset + 256 * s.len + 16 * s.base + s.index
  pub len : s.len < 16
  pub base : s.base < 16
  pub index : s.index < 16

-- in version 0 an extent has no index
abbrev pub sizes_in : ℕ → Sizes → Sizes
sizes_in version s =
    record {
      offset = s.offset;
      len = s.len;
      base = s.base;
      index = if version == 0 then 0 else
          s.index;
    }

-- the tree is valid: its fields have their lengths, and its count counts its items
pub record AreLocations (wanted : ℕ) (t : LocationsTree) : Type 0 where
  pub head : IsFull t.head
  pub version : t.head.version ≤ 2
  pub packed : ArePacked t.packed t.sizes
  pub count : length t.count ≡ number_len t.head.version
  pub counted : big_number (length t.count) t.count ≡ length t.items
  pub items : All (IsLocation wanted t.head.version (sizes_in t.head.version t.sizes)) t.items

-- the locations of the wanted item
abbrev pub locations_said : ℕ → LocationsTree → List ItemExtents
locations_said wanted t = flat_map (location_said wanted t.head.version) t.items

-- the bytes of a valid `iloc` give the locations of the wanted item that its tree says
abbrev pub LocationsAreRead : ℕ → LocationsTree → Type 0
LocationsAreRead wanted t =
    AreLocations wanted t → locations wanted (print_locations t) ≡ Ok (locations_said wanted t)

-- an `iloc` that is read is that of a tree
abbrev pub IsAnIloc : ℕ → List ℕ → List ItemExtents → Type 0
IsAnIloc wanted body listed =
    locations wanted body ≡ Ok listed → (t : LocationsTree) × AreLocations wanted t
    × (locations_said wanted t ≡ listed) × (print_locations t ≡ body)

-- ---- the text of an extent

-- a text is behind so many bytes, with any bytes behind it
pub record StandsAt (bytes : List ℕ) (from : ℕ) (text : List ℕ) : Type 0 where
  pub front : List ℕ
  pub behind : List ℕ
  pub begins : length front ≡ from
  pub whole : front ++ (text ++ behind) ≡ bytes

-- a text is all that is behind so many bytes
pub record RunsToEnd (bytes : List ℕ) (from : ℕ) (text : List ℕ) : Type 0 where
  pub front : List ℕ
  pub begins : length front ≡ from
  pub whole : front ++ text ≡ bytes

-- in the file: length 0 runs to the end, and is empty past it
abbrev pub IsFileText : List ℕ → ℕ → ℕ → List ℕ → Type 0
IsFileText file from len text =
    ((len ≡ 0) × (RunsToEnd file from text ⊎ ((length file < from) × (text ≡ []))))
    ⊎ ((0 < len) × (length text ≡ len) × StandsAt file from text)

-- in `idat`: length 0 runs to the end, which it may not begin past
abbrev pub IsIdatText : List ℕ → ℕ → ℕ → List ℕ → Type 0
IsIdatText idat from len text =
    ((len ≡ 0) × RunsToEnd idat from text)
    ⊎ ((0 < len) × (length text ≡ len) × StandsAt idat from text)

-- offsets have 64 bits
abbrev pub IsText : Within → List ℕ → ℕ → Extent → List ℕ → Type 0
IsText File bytes base e text =
    (base + e.offset < 2 ^ 64) × IsFileText bytes (base + e.offset) e.len text
IsText ItemDataBox bytes base e text =
    (base + e.offset + e.len < 2 ^ 64) × IsIdatText bytes (base + e.offset) e.len text

-- an extent is read as the text that is there
abbrev pub TextIsRead : Within → List ℕ → ℕ → Extent → List ℕ → Type 0
TextIsRead within bytes base e text =
    IsText within bytes base e text → extent_bytes within bytes base e ≡ Ok text

-- what is read of an extent is there
abbrev pub IsAText : Within → List ℕ → ℕ → Extent → List ℕ → Type 0
IsAText within bytes base e text =
    extent_bytes within bytes base e ≡ Ok text → IsText within bytes base e text

-- ---- an item: the texts of its extents, one after the other

-- what each extent gives: its bytes, or a refusal
abbrev pub ExtentBytes : Type 0
ExtentBytes = Extent → Result (List ℕ) Refusal

-- each extent is this text
abbrev pub AreTexts : ExtentBytes → List Extent → List (List ℕ) → Type 0
AreTexts bytes_of [] [] = ⊤
AreTexts bytes_of (e ∷ es) (text ∷ texts) = (bytes_of e ≡ Ok text) × AreTexts bytes_of es texts
AreTexts bytes_of es texts = ⊥

-- texts, one after the other
abbrev pub joined_texts : List (List ℕ) → List ℕ
joined_texts texts = flat_map (λ text. text) texts

-- texts of at most 65,535 bytes together are the item
abbrev pub ItemIsJoined : ExtentBytes → List Extent → List (List ℕ) → Type 0
ItemIsJoined bytes_of es texts =
    AreTexts bytes_of es texts → length (joined_texts texts) ≤ 65535
    → gathered bytes_of [] es ≡ Ok (joined_texts texts)

-- an item that is read is its extents' texts
abbrev pub IsAnItem : ExtentBytes → List Extent → List ℕ → Type 0
IsAnItem bytes_of es item =
    gathered bytes_of [] es ≡ Ok item → (texts : List (List ℕ)) × AreTexts bytes_of es texts
    × (length (joined_texts texts) ≤ 65535) × (joined_texts texts ≡ item)
