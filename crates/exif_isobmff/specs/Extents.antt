-- Where the bytes of an item are in a file: ranges, each an offset and a length (ISO/IEC
-- 14496-12:2015, 8.11.3).
use Rattle.std.specs.Prelude.{◌≡◌, ℕ, zero, suc, ◌+◌, ◌-◌, ◌^◌, ◌==◌, ◌<◌, nat_lt, if◌then◌else◌, List, [], ◌∷◌, ◌++◌, length, drop, map, unwrap_or, Result, Ok, Err}
use Rattle.std.specs.List.{All}
use Rattle.std.specs.Io.Iter.{u64_saturate}
use Rattle.exif_base.specs.Bytes.{bytes_at}
use Rattle.exif_types.specs.Refusals.{Refusal, Front, ◌>>=◌}
use Rattle.exif_isobmff.specs.declared.locations.Extent.{Extent}
use Rattle.exif_isobmff.specs.declared.kind.Kind.{Kind}
use Rattle.exif_isobmff.specs.declared.kind.Kind.TheVariants.{ItemData}
use Rattle.exif_isobmff.specs.Boxes.{Part, box_at}
use Rattle.exif_isobmff.specs.Kinds.{same_kind}
use Rattle.exif_isobmff.specs.HeifFile.{file_box_at, is_meta, meta_body}
use Rattle.exif_isobmff.specs.Heif.{FoundItem, after_header, exif_of, exif_item}
use Rattle.exif_isobmff.specs.ItemLocations.{ItemExtents, item_bytes}

-- the bytes of a range
abbrev pub range_bytes : List ℕ → Extent → List ℕ
range_bytes file e = bytes_at e.len file e.offset

-- the bytes of ranges, one after the other
abbrev pub joined_bytes : List ℕ → List Extent → List ℕ
joined_bytes file [] = []
joined_bytes file (e ∷ es) = range_bytes file e ++ joined_bytes file es

-- a range without its first n bytes
abbrev pub without_front : ℕ → Extent → Extent
without_front n e = record { offset = u64_saturate (e.offset + n); len = e.len - n }

-- ranges without their first n bytes
abbrev pub without_first : ℕ → List Extent → List Extent
without_first n [] = []
without_first n (e ∷ es) =
    if nat_lt n e.len then without_front n e ∷ es
    else without_first (n - e.len) es

-- the range that an extent names in so many bytes; length 0 runs to their end
abbrev pub range_in : ℕ → ℕ → Extent → Extent
range_in total base e =
    let from = u64_saturate (base + e.offset) in
    record { offset = from; len = if e.len == 0 then total - from else e.len }

-- the same in bytes
abbrev pub range_of : List ℕ → ℕ → Extent → Extent
range_of bytes base e = range_in (length bytes) base e

-- a range of bytes that begin at an offset of the file
abbrev pub moved_by : ℕ → Extent → Extent
moved_by offset e = record { offset = u64_saturate (offset + e.offset); len = e.len }

-- all bytes of a range are there
abbrev pub IsWhole : List ℕ → Extent → Type 0
IsWhole file e = length (range_bytes file e) ≡ e.len

-- ---- where a box is

-- what follows the first `meta`: it is this box, or comes later
abbrev pub behind_this : Front Part → (List ℕ → List ℕ) → List ℕ
behind_this (Ok p) later = if is_meta p.0 then p.1 else later p.1
behind_this (Err r) later = []

-- what follows the first `meta` of at most n boxes
abbrev pub behind_within : ℕ → List ℕ → List ℕ
behind_within zero file = []
behind_within (suc n) [] = []
behind_within (suc n) (b ∷ file) = behind_this (file_box_at (b ∷ file)) (behind_within n)

-- what follows the first `meta` of a file; each box has a byte
abbrev pub behind_meta : List ℕ → List ℕ
behind_meta file = behind_within (length file) file

-- what follows the last box of a type among at most n boxes, or followed one before
abbrev pub last_within : Kind → ℕ → List ℕ → List ℕ → List ℕ
last_within kind zero found text = found
last_within kind (suc n) found [] = found
last_within kind (suc n) found (b ∷ text) =
    elim (box_at (b ∷ text)) [
      | Ok p ↦ last_within kind n (if same_kind kind p.0.kind then p.1 else found) p.1
      | Err r ↦ found
    ]

-- what follows the last box of a type among boxes; each has a byte
abbrev pub behind_last : Kind → List ℕ → List ℕ → List ℕ
behind_last kind found text = last_within kind (length text) found text

-- ---- the ranges of the Exif data

-- how many bytes of a file precede the end of its first `meta`
abbrev pub meta_end : List ℕ → ℕ
meta_end file = length file - length (behind_meta file)

-- the offset of the body of the last `idat` of a `meta` that ends at an offset
abbrev pub idat_offset : ℕ → List ℕ → List ℕ → ℕ
idat_offset end meta idat = end - length (behind_last ItemData [] (drop 4 meta)) - length idat

-- the range of an extent of the `idat` whose body is at an offset
abbrev pub range_beside : ℕ → List ℕ → ℕ → Extent → Extent
range_beside offset idat base e = moved_by offset (range_of idat base e)

-- the ranges that hold an item, by how the item is put together, in a file of so many bytes whose
-- `meta` ends at an offset
abbrev pub ranges_with : ℕ → ℕ → List ℕ → List ℕ → ItemExtents → List Extent
ranges_with total end meta idat p =
    if p.method == 0 then map (range_in total p.base) p.extents else
    map (range_beside (idat_offset end meta idat) idat p.base) p.extents

-- the ranges of the file that hold the Exif item
abbrev pub item_ranges : List ℕ → List ℕ → FoundItem → List Extent
item_ranges file meta found =
    ranges_with (length file) (meta_end file) meta (unwrap_or found.idat []) found.location

-- Exif data, and the ranges of the file that hold them
pub record Located : Type 0 where
  pub bytes : List ℕ
  pub ranges : List Extent

-- the Exif data of an item, whose first bytes are a header
unfoldable pub located_in : List Extent → List ℕ → Result Located Refusal
located_in ranges block = do
  data' ← after_header block
  Ok (record { bytes = data'; ranges = without_first (length block - length data') ranges })

-- the Exif data of a file and where they are, or why there are none
unfoldable pub located_exif : List ℕ → Result Located Refusal
located_exif file = do
  meta ← meta_body file
  found ← exif_item meta
  block ← item_bytes file found.idat found.location
  located_in (item_ranges file meta found) block

-- what is located is what the file is answered with, and is in its ranges; each range is whole
pub record IsLocated (file : List ℕ) (found : Located) : Type 0 where
  pub answered : exif_of file ≡ Ok found.bytes
  pub joined : joined_bytes file found.ranges ≡ found.bytes
  pub whole : All (IsWhole file) found.ranges

-- the Exif data of a file of fewer than 2^64 bytes are in the ranges that are answered
abbrev pub ExifIsLocated : List ℕ → Type 0
ExifIsLocated file =
    (found : Located) → length file < 2 ^ 64 → located_exif file ≡ Ok found → IsLocated file found
