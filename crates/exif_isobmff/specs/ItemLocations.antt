-- Item locations (ISO/IEC 14496-12:2015, 8.11.3).
use Rattle.std.specs.Prelude.{ℕ, ◌+◌, ◌*◌, ◌/◌, ◌%◌, ◌^◌, ◌==◌, ◌&&◌, ◌||◌, not, nat_lt, nat_le, slice_index, if◌then◌else◌, List, [], ◌∷◌, ◌++◌, length, take, drop, Option, Result, Ok, Err}
use Rattle.std.specs.Option.{option_map, option_to_list}
use Rattle.exif_isobmff.specs.declared.locations.Sizes.{Sizes}
use Rattle.exif_isobmff.specs.declared.locations.ItemHead.{ItemHead}
use Rattle.exif_isobmff.specs.declared.locations.Extent.{Extent}
use Rattle.exif_isobmff.specs.declared.locations.Location.{Location}
use Rattle.exif_isobmff.specs.declared.extents.Within.{Within}
use Rattle.exif_isobmff.specs.declared.extents.Within.TheVariants.{File, ItemDataBox}
use Rattle.exif_types.specs.Refusals.{Refusal, ◌>>=◌, or_refuse, Front}
use Rattle.exif_isobmff.specs.HeifRefusals.{external_data, invalid_base_size, invalid_index_size, invalid_offset_size, invalid_length_size, unsupported_iloc, invalid_offset, invalid_length, broken_file, out_of_idat, no_idat, by_item_offset, invalid_method, data_too_large}
use Rattle.exif_isobmff.specs.Boxes.{bytes_at, pass_at, number_at, version_at, times, times_joined}

-- how many bytes the fields of an item take: 4 bits each
abbrev pub sizes : ℕ → ℕ → Sizes
sizes version n =
    record {
      offset = n / 4096;
      len = n / 256 % 16;
      base = n / 16 % 16;
      index = if version == 0
          then 0 else n % 16;
    }

-- how many bytes an item's number takes in a version, and how many items' count
abbrev pub item_width : ℕ → ℕ
item_width version = if version == 2 then 4 else 2

-- a number of 0, 4 or 8 bytes
abbrev pub sized_at : Refusal → ℕ → List ℕ → Front ℕ
sized_at refusal size text =
    if (size == 0) || (size == 4) || (size == 8) then number_at size text else Err refusal

-- index, offset and length; the index says nothing here
unfoldable pub extent_at : Sizes → List ℕ → Front Extent
extent_at s text = do
  index ← sized_at invalid_index_size s.index text
  offset ← sized_at invalid_offset_size s.offset index.1
  len ← sized_at invalid_length_size s.len offset.1
  Ok (record { offset = offset.0; len = len.0 }, len.1)

-- where an item is
pub record ItemExtents : Type 0 where
  pub method : ℕ
  pub base : ℕ
  pub extents : List Extent

-- a location of the code as one of the definitions
abbrev pub location_view : Location → ItemExtents
location_view l = record { method = l.method; base = l.base; extents = l.extents.items }

-- the offset, where there is one
abbrev pub location_list : Option Location → List ItemExtents
location_list o = option_to_list (option_map location_view o)

-- how an item is put together: the low 4 bits of two bytes, or 0 in version 0
abbrev pub method_at : ℕ → List ℕ → Front ℕ
method_at version text = if version == 0 then Ok (0, text) else (do
  bytes ← bytes_at 2 text
  Ok (slice_index bytes.0 1 % 16, bytes.1))

-- what is in front of an item's extents; data in another file are refused
unfoldable pub item_head_at : ℕ → Sizes → List ℕ → Front ItemHead
item_head_at version s text = do
  number ← number_at (item_width version) text
  method ← method_at version number.1
  reference ← number_at 2 method.1
  base ← if (method.0 == 0) && not (reference.0 == 0) then Err external_data else
      sized_at invalid_base_size s.base reference.1
  count ← number_at 2 base.1
  Ok (record { number = number.0; method = method.0; base = base.0; count = count.0 }, count.1)

-- a location, where the item at the front is the wanted one; extents of others are skipped
unfoldable pub location_at : ℕ → ℕ → Sizes → List ℕ → Front (List ItemExtents)
location_at wanted version s text = do
  head ← item_head_at version s text
  if head.0.number == wanted
      then (do
        extents ← times head.0.count (extent_at s) head.1
        Ok (
          record { method = head.0.method; base = head.0.base; extents = extents.0 } ∷ [],
          extents.1,
        ))
      else (do
        passed ← pass_at ((s.index + s.offset + s.len) * head.0.count) head.1
        Ok ([], passed.1))

-- the locations of the wanted item in an `iloc` box
unfoldable pub locations : ℕ → List ℕ → Result (List ItemExtents) Refusal
locations wanted body = do
  version ← version_at body
  packed ← number_at 2 version.1
  count ← if nat_lt 2 version.0 then Err unsupported_iloc else
      number_at (item_width version.0) packed.1
  times_joined count.0 (location_at wanted version.0 (sizes version.0 packed.0)) count.1

-- what an extent of this length has of the bytes from its offset on; length 0 runs to their end
abbrev pub extent_front : ℕ → List ℕ → Result (List ℕ) Refusal
extent_front len bytes =
    if len == 0 then Ok bytes else
    (if nat_lt (length bytes) len then Err broken_file else Ok (take len bytes))

-- the bytes of an extent of the file; length 0 runs to its end
unfoldable pub file_extent : List ℕ → ℕ → Extent → Result (List ℕ) Refusal
file_extent file base e =
    let from = base + e.offset in
    if nat_le (2 ^ 64) from then Err invalid_offset else
    (if e.len == 0 then Ok (drop from file) else
    (if nat_lt (length file) (from + e.len) then Err broken_file else
    Ok (take e.len (drop from file))))

-- the bytes of an extent of the data beside the items
unfoldable pub idat_extent : List ℕ → ℕ → Extent → Result (List ℕ) Refusal
idat_extent idat base e =
    let from = base + e.offset in
    if nat_le (2 ^ 64) from then Err invalid_offset else
    (if nat_le (2 ^ 64) (from + e.len) then Err invalid_length else
    (if nat_lt (length idat) (from + e.len) then Err out_of_idat else
    (if e.len == 0 then Ok (drop from idat) else Ok (take e.len (drop from idat)))))

-- the bytes of an extent, in the file or beside the items
abbrev pub extent_bytes : Within → List ℕ → ℕ → Extent → Result (List ℕ) Refusal
extent_bytes File bytes base e = file_extent bytes base e
extent_bytes ItemDataBox bytes base e = idat_extent bytes base e

-- the bytes of extents behind those before; after each there are at most 65,535
abbrev pub gathered : (Extent → Result (List ℕ) Refusal) → List ℕ → List Extent
    → Result (List ℕ) Refusal
gathered bytes_of front [] = Ok front
gathered bytes_of front (e ∷ es) = do
  bytes ← bytes_of e
  if nat_lt 65535 (length (front ++ bytes)) then Err data_too_large else
      gathered bytes_of (front ++ bytes) es

-- the bytes at a location, by how the item is put together
unfoldable pub item_bytes : List ℕ → Option (List ℕ) → ItemExtents → Result (List ℕ) Refusal
item_bytes file idat p =
    if p.method == 0 then gathered (extent_bytes File file p.base) [] p.extents else
    (if p.method == 1 then (do
      beside ← or_refuse idat no_idat
      gathered (extent_bytes ItemDataBox beside p.base) [] p.extents) else
    (if p.method == 2 then Err by_item_offset else Err invalid_method))
