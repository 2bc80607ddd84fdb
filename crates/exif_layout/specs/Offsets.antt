-- Where the parts of an image are (TIFF 6.0, section 2, "Value/Offset": offsets of values are
-- even).
use Rattle.std.specs.Prelude.{ℕ, suc, ◌+◌, ◌*◌, ◌%◌, nat_le, List, [], ◌∷◌, length, if◌then◌else◌}
use Rattle.exif_types.specs.declared.value.Value.{Value}
use Rattle.exif_types.specs.declared.value.Value.TheVariants.{Long}
use Rattle.exif_table.specs.declared.context.Context.{Context}
use Rattle.exif_table.specs.declared.context.Context.TheVariants.{Tiff, Exif, Gps, Interop}
use Rattle.exif_layout.specs.declared.block_kind.BlockKind.{BlockKind}
use Rattle.exif_layout.specs.declared.block_kind.BlockKind.TheVariants.{Strips, Tiles, Jpeg}
use Rattle.exif_layout.specs.Slots.{Draft, Slot, Content, Known, OffsetsOf, LengthsOf, OffsetOf, content_len}

-- the length of a directory; one with no entries isn't there
abbrev pub directory_len : List Slot → ℕ
directory_len [] = 0
directory_len (slot ∷ slots) = 6 + 12 * suc (length slots)

-- the next even offset
abbrev pub even : ℕ → ℕ
even offset = offset + offset % 2

-- where the values end after one of some length, which is in its entry or at the next even
-- offset
abbrev pub after_value : ℕ → ℕ → ℕ
after_value offset len = if nat_le len 4 then offset else even offset + len

-- where the values of entries end that begin at an offset
abbrev pub after_values : ℕ → List Slot → ℕ
after_values offset [] = offset
after_values offset (slot ∷ slots) =
    after_values (after_value offset (content_len slot.content)) slots

-- where blocks end that begin at an offset
abbrev pub after_blocks : ℕ → List (List ℕ) → ℕ
after_blocks offset [] = offset
after_blocks offset (text ∷ texts) = after_blocks (offset + length text) texts

-- The offsets of a draft whose first free offset is `start`: each is the end of what is before
-- it.
module _ (draft : Draft) (start : ℕ) where
  -- where the TIFF directory begins: at the next even offset
  unfoldable pub tiff_offset : ℕ
  tiff_offset = even start

  -- where the Exif directory begins, behind the TIFF directory
  unfoldable pub exif_offset : ℕ
  exif_offset = tiff_offset + directory_len (draft.slots Tiff)

  -- where the GPS directory begins, behind the Exif directory
  unfoldable pub gps_offset : ℕ
  gps_offset = exif_offset + directory_len (draft.slots Exif)

  -- where the Interop directory begins, behind the GPS directory
  unfoldable pub interop_offset : ℕ
  interop_offset = gps_offset + directory_len (draft.slots Gps)

  -- where the values of the TIFF directory may begin, behind all directories
  unfoldable pub tiff_values : ℕ
  tiff_values = interop_offset + directory_len (draft.slots Interop)

  -- where those of the Exif directory may begin, behind those of TIFF
  unfoldable pub exif_values : ℕ
  exif_values = after_values tiff_values (draft.slots Tiff)

  -- where those of the GPS directory may begin, behind those of Exif
  unfoldable pub gps_values : ℕ
  gps_values = after_values exif_values (draft.slots Exif)

  -- where those of the Interop directory may begin, behind those of GPS
  unfoldable pub interop_values : ℕ
  interop_values = after_values gps_values (draft.slots Gps)

  -- where the strips begin, behind all values
  unfoldable pub strips_offset : ℕ
  strips_offset = after_values interop_values (draft.slots Interop)

  -- where the tiles begin, behind the strips
  unfoldable pub tiles_offset : ℕ
  tiles_offset = after_blocks strips_offset (draft.blocks Strips)

  -- where the JPEG begins, behind the tiles
  unfoldable pub jpeg_offset : ℕ
  jpeg_offset = after_blocks tiles_offset (draft.blocks Tiles)

  -- where the draft ends, behind the JPEG
  unfoldable pub draft_end : ℕ
  draft_end = after_blocks jpeg_offset (draft.blocks Jpeg)

  -- where the directory of a context begins
  abbrev pub directory_offset : Context → ℕ
  directory_offset Tiff = tiff_offset
  directory_offset Exif = exif_offset
  directory_offset Gps = gps_offset
  directory_offset Interop = interop_offset

  -- the first free offset for the values of a directory that don't fit into its entries
  abbrev pub values_offset : Context → ℕ
  values_offset Tiff = tiff_values
  values_offset Exif = exif_values
  values_offset Gps = gps_values
  values_offset Interop = interop_values

  -- where the blocks of a kind begin
  abbrev pub blocks_offset : BlockKind → ℕ
  blocks_offset Strips = strips_offset
  blocks_offset Tiles = tiles_offset
  blocks_offset Jpeg = jpeg_offset

-- where drafts end that begin at an offset
abbrev pub drafts_end : ℕ → List Draft → ℕ
drafts_end start [] = start
drafts_end start (draft ∷ drafts) = drafts_end (draft_end draft start) drafts

-- the offset of the next directory of the chain: that of the next draft, if there is one
abbrev pub next_offset : ℕ → List Draft → ℕ
next_offset end [] = 0
next_offset end (draft ∷ drafts) = even end

-- the offsets of blocks of these lengths that are one behind the other
abbrev pub offsets_from : ℕ → List ℕ → List ℕ
offsets_from offset [] = []
offsets_from offset (len ∷ lengths) = offset ∷ offsets_from (offset + len) lengths

-- the value of an entry, once the offsets are settled
abbrev pub value_of : Draft → ℕ → Content → Value
value_of draft start (Known value) = value
value_of draft start (OffsetsOf kind lengths) =
    Long (offsets_from (blocks_offset draft start kind) lengths)
value_of draft start (LengthsOf kind lengths) = Long lengths
value_of draft start (OffsetOf context) = Long (directory_offset draft start context ∷ [])

-- an entry as it is written: its value, and the offset where the value's bytes are
pub record Written : Type 0 where
  pub tag : ℕ
  pub content : Content
  pub value : Value
  pub offset : ℕ

-- the entries of a directory; the first one is at `at`, and the values that don't fit into
-- their entries from `values` on
abbrev pub written : Draft → ℕ → ℕ → ℕ → List Slot → List Written
written draft start at values [] = []
written draft start at values (slot ∷ slots) =
    record {
      tag = slot.tag;
      content = slot.content;
      value = value_of draft start slot.content;
      offset = if nat_le (content_len slot.content) 4 then at + 8 else even values;
    }
    ∷ written draft start (at + 12) (after_value values (content_len slot.content)) slots

-- the entries of the directory of a context as they are written, with their values and offsets
abbrev pub entries_of : Draft → ℕ → Context → List Written
entries_of draft start context =
    written draft start (directory_offset draft start context + 2)
    (values_offset draft start context) (draft.slots context)
