-- The Exif item of a file as an edit needs it that moves the item, and whether a box can follow the
-- boxes of a file.
use Rattle.std.specs.Prelude.{ℕ, ◌-◌, ◌==◌, Bool, true, false, if◌then◌else◌, List, length, take, codes, Option, None, Some, Result, Ok, Err}
use Rattle.std.specs.List.{list_any}
use Rattle.exif_types.specs.Refusals.{Refusal, Front, not_supported, ◌>>=◌}
use Rattle.exif_isobmff.specs.Boxes.{Part, all_boxes, box_at, sizes_itself}
use Rattle.exif_isobmff.specs.Entries.{entry_offset, exif_entry}
use Rattle.exif_isobmff.specs.Extents.{item_ranges, meta_end}
use Rattle.exif_isobmff.specs.Heif.{after_header, exif_item}
use Rattle.exif_isobmff.specs.HeifFile.{meta_body}
use Rattle.exif_isobmff.specs.HeifRefusals.{broken_file}
use Rattle.exif_isobmff.specs.ItemLocations.{ItemExtents, item_bytes}
use Rattle.exif_isobmff.specs.declared.entries.Entry.{Entry}
use Rattle.exif_isobmff.specs.declared.locations.Extent.{Extent}
use Rattle.exif_grow.specs.declared.item_fields.ExifFields.{ExifFields}

-- the Exif item of a file: the bytes before its data, the ranges of the file that hold it, and
-- its entry in `iloc`
pub record ItemFields : Type 0 where
  pub header : List ℕ
  pub ranges : List Extent
  pub offset : ℕ
  pub entry : Entry

-- the fields of the code as those of a definition
abbrev pub fields_view : ExifFields → ItemFields
fields_view f =
    record {
      header = f.header.items;
      ranges = f.ranges.items;
      offset = f.offset;
      entry = f.entry;
    }

-- an extent of an item has no length: it runs to the end of the file, over whatever follows the
-- item (ISO/IEC 14496-12:2015, 8.11.3.3)
abbrev pub is_open : ItemExtents → Bool
is_open location = list_any (λ e. e.len == 0) location.extents

-- such an item is refused
abbrev pub bounded : ItemExtents → Result (Unit {0}) Refusal
bounded location =
    if is_open location then Err (not_supported (codes "Exif item without a length")) else Ok tt

-- the Exif item of a file, or why there is none
unfoldable pub item_fields : List ℕ → Result ItemFields Refusal
item_fields file = do
  meta ← meta_body file
  found ← exif_item meta
  block ← item_bytes file found.idat found.location
  data' ← after_header block
  entry ← exif_entry meta
  known ← bounded found.location
  Ok (record {
    header = take (length block - length data') block;
    ranges = item_ranges file meta found;
    offset = entry_offset (meta_end file) meta entry;
    entry = entry;
  })

-- ---- whether a box can follow the boxes of a file

-- a box at the front of a file that says its size and is whole
abbrev pub closed_box_at : List ℕ → Front Part
closed_box_at file = if sizes_itself file then box_at file else Err broken_file

-- whether nothing is wrong
abbrev pub is_none : Option Refusal → Bool
is_none None = true
is_none (Some r) = false

-- whether all boxes of a file say their sizes and are whole
unfoldable pub are_closed : List ℕ → Bool
are_closed file = is_none (all_boxes closed_box_at file).fault
