-- The Exif data of a HEIF file (ISO/IEC 23008-12:2017, A.2.1).
use Rattle.std.specs.Prelude.{ℕ, ◌+◌, ◌-◌, ◌==◌, nat_lt, if◌then◌else◌, List, length, drop, Option, None, Result, Ok, Err}
use Rattle.byteorder.specs.Endian.{big_number}
use Rattle.std.specs.List.{last_or}
use Rattle.exif_isobmff.specs.declared.kind.Kind.TheVariants.{ItemInfo, ItemLocation, ItemData}
use Rattle.exif_types.specs.Refusals.{Refusal, ◌>>=◌, last_read, or_refuse}
use Rattle.exif_isobmff.specs.HeifRefusals.{no_exif, no_iloc, no_matching_item, unsupported_meta, block_too_small, invalid_header_offset}
use Rattle.exif_isobmff.specs.Boxes.{Parts, version_at, children, bodies, read_each}
use Rattle.exif_isobmff.specs.Items.{exif_numbers}
use Rattle.exif_isobmff.specs.ItemLocations.{ItemExtents, locations, item_bytes}
use Rattle.exif_isobmff.specs.HeifFile.{meta_body}

-- what counts among the children of `meta`: the last Exif item over all `iinf`, the last `iloc` and
-- the last `idat`
pub record Tables : Type 0 where
  pub item : Option ℕ
  pub iloc : Option (List ℕ)
  pub idat : Option (List ℕ)

-- what counts among these boxes
abbrev pub tables_of : Parts → Result Tables Refusal
tables_of parts = do
  item ← last_read None (read_each ItemInfo exif_numbers parts)
  Ok (record {
    item = item;
    iloc = last_or None (bodies ItemLocation parts);
    idat = last_or None (bodies ItemData parts);
  })

-- `meta` is a full box of version 0, and then boxes
unfoldable pub meta_tables : List ℕ → Result Tables Refusal
meta_tables body = do
  version ← version_at body
  if version.0 == 0 then tables_of (children version.1) else Err unsupported_meta

-- what follows a 32-bit number and as many bytes as it says
unfoldable pub after_header : List ℕ → Result (List ℕ) Refusal
after_header block =
    if nat_lt (length block) 4 then Err block_too_small else
    (if nat_lt (length block - 4) (big_number 4 block) then Err invalid_header_offset else
    Ok (drop (4 + big_number 4 block) block))

-- where the Exif item is, and the data beside the items
pub record FoundItem : Type 0 where
  pub location : ItemExtents
  pub idat : Option (List ℕ)

-- where the Exif item is, as `meta` says
unfoldable pub exif_item : List ℕ → Result FoundItem Refusal
exif_item meta = do
  tables ← meta_tables meta
  item ← or_refuse tables.item no_exif
  iloc ← or_refuse tables.iloc no_iloc
  found ← last_read None (locations item iloc)
  location ← or_refuse found no_matching_item
  Ok (record { location = location; idat = tables.idat })

-- the bytes of the Exif item
unfoldable pub exif_block : List ℕ → List ℕ → Result (List ℕ) Refusal
exif_block file meta = exif_item meta >>= λ found. item_bytes file found.idat found.location

-- the Exif data of a file, or why there are none
unfoldable pub exif_of : List ℕ → Result (List ℕ) Refusal
exif_of file = do
  meta ← meta_body file
  block ← exif_block file meta
  after_header block
