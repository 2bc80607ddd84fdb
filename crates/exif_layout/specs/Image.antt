-- The image of groups: its parts, what they say and where they are (TIFF 6.0, section 2;
-- Exif 2.32, 4.5.2).
use Rattle.std.specs.Prelude.{ℕ, ◌+◌, ◌-◌, nat_le, List, [], ◌∷◌, ◌++◌, length, map, replicate, if◌then◌else◌}
use Rattle.std.specs.List.{flat_map}
use Rattle.exif_base.specs.declared.endian.Order.{Order}
use Rattle.exif_base.specs.declared.endian.Order.TheVariants.{Big, Little}
use Rattle.exif_table.specs.declared.context.Context.TheVariants.{Tiff, Exif, Gps, Interop}
use Rattle.exif_layout.specs.declared.block_kind.BlockKind.TheVariants.{Strips, Tiles, Jpeg}
use Rattle.exif_layout.specs.Groups.{Group}
use Rattle.exif_layout.specs.Encoding.{spelled, encode, value_len}
use Rattle.exif_types.specs.ValueTypes.{type_number, count_of}
use Rattle.exif_layout.specs.Slots.{Draft, draft_of}
use Rattle.exif_layout.specs.Offsets.{Written, entries_of, tiff_offset, exif_offset, gps_offset, interop_offset, strips_offset, tiles_offset, jpeg_offset, draft_end, next_offset}

-- a part of an image: its offset and its bytes
pub record Part : Type 0 where
  pub offset : ℕ
  pub text : List ℕ

-- the 12 bytes of an entry
abbrev pub entry_text : Order → Written → List ℕ
entry_text order entry =
    spelled order 2 entry.tag
    ++ (spelled order 2 (type_number entry.value)
    ++ (spelled order 4 (count_of entry.value)
    ++ (if nat_le (value_len entry.value) 4
    then encode order entry.value ++ replicate (4 - value_len entry.value) 0
    else spelled order 4 entry.offset)))

-- a directory: the count, the entries, and the offset of the next one
abbrev pub directory_text : Order → ℕ → List Written → List ℕ
directory_text order next entries =
    spelled order 2 (length entries)
    ++ (flat_map (entry_text order) entries ++ spelled order 4 next)

-- a directory with no entries isn't there
abbrev pub directory_part : Order → ℕ → ℕ → List Written → List Part
directory_part order offset next [] = []
directory_part order offset next (entry ∷ entries) =
    record { offset = offset; text = directory_text order next (entry ∷ entries) } ∷ []

-- the values that don't fit into their entries
abbrev pub value_parts : Order → List Written → List Part
value_parts order [] = []
value_parts order (entry ∷ entries) =
    if nat_le (value_len entry.value) 4 then value_parts order entries
    else record { offset = entry.offset; text = encode order entry.value } ∷ value_parts order entries

-- each block as a part, one right behind the other from an offset on
abbrev pub block_parts : ℕ → List (List ℕ) → List Part
block_parts offset [] = []
block_parts offset (text ∷ texts) =
    record { offset = offset; text = text } ∷ block_parts (offset + length text) texts

-- the parts of a draft that begins at `start`, `next` being the offset of the next directory of the
-- chain
unfoldable pub draft_parts : Order → Draft → ℕ → ℕ → List Part
draft_parts order draft start next =
    directory_part order (tiff_offset draft start) next (entries_of draft start Tiff)
    ++ (directory_part order (exif_offset draft start) 0 (entries_of draft start Exif)
    ++ (directory_part order (gps_offset draft start) 0 (entries_of draft start Gps)
    ++ (directory_part order (interop_offset draft start) 0 (entries_of draft start Interop)
    ++ (value_parts order (entries_of draft start Tiff)
    ++ (value_parts order (entries_of draft start Exif)
    ++ (value_parts order (entries_of draft start Gps)
    ++ (value_parts order (entries_of draft start Interop)
    ++ (block_parts (strips_offset draft start) (draft.blocks Strips)
    ++ (block_parts (tiles_offset draft start) (draft.blocks Tiles)
    ++ block_parts (jpeg_offset draft start) (draft.blocks Jpeg))))))))))

-- the parts of drafts, one draft behind the other, where the first one begins at `start`
abbrev pub parts_from : Order → ℕ → List Draft → List Part
parts_from order start [] = []
parts_from order start (draft ∷ drafts) =
    draft_parts order draft start (next_offset (draft_end draft start) drafts)
    ++ parts_from order (draft_end draft start) drafts

-- the two bytes that name the byte order: MM for big-endian, II for little-endian
abbrev pub order_mark : Order → List ℕ
order_mark Big = 0x4d ∷ 0x4d ∷ []
order_mark Little = 0x49 ∷ 0x49 ∷ []

-- byte order, the number 42, the offset of the first directory
abbrev pub header_text : Order → List ℕ
header_text order = order_mark order ++ (spelled order 2 42 ++ spelled order 4 8)

-- all parts of an image: the header, and behind it those of the drafts
abbrev pub parts : Order → List Draft → List Part
parts order drafts = record { offset = 0; text = header_text order } ∷ parts_from order 8 drafts

-- the bytes from `offset` on that have each part's text at its offset, and zero elsewhere
abbrev pub laid : ℕ → List Part → List ℕ
laid offset [] = []
laid offset (part ∷ parts) =
    replicate (part.offset - offset) 0 ++ (part.text ++ laid (part.offset + length part.text) parts)

-- the bytes that groups are written as, in an order
unfoldable pub image : Order → List Group → List ℕ
image order groups = laid 0 (parts order (map draft_of groups))
