-- Where the entry of the Exif item is in a file (ISO/IEC 14496-12:2015, 8.11.3).
use Rattle.std.specs.Prelude.{ℕ, ◌-◌, nat_lt, if◌then◌else◌, List, [], length, drop, map, None, Result, Ok, Err}
use Rattle.exif_types.specs.Refusals.{Refusal, ◌>>=◌, Front, last_read, or_refuse}
use Rattle.exif_isobmff.specs.HeifRefusals.{no_exif, no_iloc, no_matching_item, unsupported_iloc}
use Rattle.exif_isobmff.specs.declared.entries.Entry.{Entry}
use Rattle.exif_isobmff.specs.declared.kind.Kind.TheVariants.{ItemLocation}
use Rattle.exif_isobmff.specs.declared.locations.Sizes.{Sizes}
use Rattle.exif_isobmff.specs.Boxes.{number_at, times_joined, version_at}
use Rattle.exif_isobmff.specs.Extents.{behind_last}
use Rattle.exif_isobmff.specs.Heif.{meta_tables}
use Rattle.exif_isobmff.specs.ItemLocations.{item_width, location_at, sizes}

-- the entry at the front, where it is that of the wanted item
unfoldable pub entry_at : ℕ → ℕ → Sizes → List ℕ → Front (List Entry)
entry_at wanted version s text = do
  found ← location_at wanted version s text
  Ok (
    map (λ l. record { left = length text; version = version; sizes = s }) found.0,
    found.1,
  )

-- the entries of the wanted item in an `iloc` box
unfoldable pub entries : ℕ → List ℕ → Result (List Entry) Refusal
entries wanted body = do
  version ← version_at body
  packed ← number_at 2 version.1
  count ← if nat_lt 2 version.0 then Err unsupported_iloc else
      number_at (item_width version.0) packed.1
  times_joined count.0 (entry_at wanted version.0 (sizes version.0 packed.0)) count.1

-- the entry of the Exif item, whose last location counts
unfoldable pub exif_entry : List ℕ → Result Entry Refusal
exif_entry meta = do
  tables ← meta_tables meta
  item ← or_refuse tables.item no_exif
  iloc ← or_refuse tables.iloc no_iloc
  found ← last_read None (entries item iloc)
  or_refuse found no_matching_item

-- the offset of an entry of the last `iloc` of a `meta` that ends at an offset
abbrev pub entry_offset : ℕ → List ℕ → Entry → ℕ
entry_offset end meta entry =
    end - length (behind_last ItemLocation [] (drop 4 meta)) - entry.left
