-- What a plan's entries say once the offsets are settled.
use Rattle.std.specs.Prelude.{ℕ, ◌≡◌, ◌+◌, ◌-◌, ◌≤◌, ◌++◌, nat_le, ◌%◌, ◌==◌, false, if◌then◌else◌, List, [], ◌∷◌, length, replicate, ⊤}
use denote.Ref.{Bor}
use Rattle.std.specs.List.{flat_map}
use Rattle.exif_layout.specs.Slots as format
use Rattle.exif_layout.specs.EntryContents.{lens, symbol_of, content_type, content_count, content_size, IsKnownContent}
use Rattle.exif_writer.specs.Running.{state}
use Rattle.exif_writer.specs.declared.plan.Offsets.{Offsets}
use Rattle.exif_writer.specs.declared.plan.Slot.{Slot}
use Rattle.exif_layout.specs.declared.content.Content.{Content}
use Rattle.exif_layout.specs.declared.content.Content.TheVariants.{Known, OneShort, OneLong, OffsetsOf, LengthsOf, OffsetOf}
use Rattle.exif_types.specs.declared.value.Value.{Value}
use Rattle.exif_types.specs.declared.value.Value.TheVariants.{Short, Long}
use Rattle.exif_table.specs.declared.context.Context.{Context}
use Rattle.exif_table.specs.declared.context.Context.TheVariants.{Tiff, Exif, Gps, Interop}
use Rattle.exif_layout.specs.declared.block_kind.BlockKind.{BlockKind}
use Rattle.exif_layout.specs.declared.block_kind.BlockKind.TheVariants.{Strips, Tiles, Jpeg}
use Rattle.exif_layout.specs.Encoding.{spelled, encode, moved_to}
use Rattle.exif_base.specs.declared.endian.Order.{Order}
use Rattle.exif_layout.specs.Offsets.{offsets_from, even, after_value}

-- how long all of the borrowed blocks are
abbrev pub sum_of : List (Bor (List ℕ)) → ℕ
sum_of [] = 0
sum_of (block ∷ blocks) = length block.now + sum_of blocks

-- where the blocks of a kind begin
abbrev pub block_offset : Offsets → BlockKind → ℕ
block_offset offsets Strips = offsets.strips
block_offset offsets Tiles = offsets.tiles
block_offset offsets Jpeg = offsets.jpeg

-- where the directory of a context begins
abbrev pub context_offset : Offsets → Context → ℕ
context_offset offsets Tiff = offsets.tiff
context_offset offsets Exif = offsets.exif
context_offset offsets Gps = offsets.gps
context_offset offsets Interop = offsets.interop

-- the value of an entry
abbrev pub settled : Offsets → Content → Value
settled offsets (Known value) = moved_to 0 value
settled offsets (OneShort x) = Short (x ∷ [])
settled offsets (OneLong x) = Long (x ∷ [])
settled offsets (OffsetsOf kind blocks) =
    Long (offsets_from (block_offset offsets kind) (lens blocks.now))
settled offsets (LengthsOf kind blocks) = Long (lens blocks.now)
settled offsets (OffsetOf context) = Long (context_offset offsets context ∷ [])

-- the offsets and lengths of blocks fit into 32 bits
abbrev pub Settles : Offsets → Content → Type 0
Settles offsets (Known value) = ⊤
Settles offsets (OneShort x) = ⊤
Settles offsets (OneLong x) = ⊤
Settles offsets (OffsetsOf kind blocks) = block_offset offsets kind + sum_of blocks.now ≤ 4294967295
Settles offsets (LengthsOf kind blocks) = sum_of blocks.now ≤ 4294967295
Settles offsets (OffsetOf context) = ⊤

-- an entry in the words of images
abbrev pub symbol : Slot → format.Slot
symbol slot = record { tag = slot.tag; content = symbol_of slot.content }

-- the last four bytes of an entry: its value, or the offset where it is
abbrev pub element : Order → Offsets → Slot → List ℕ
element order offsets slot =
    if nat_le slot.size 4
    then encode order (settled offsets slot.content) ++ replicate (4 - slot.size) 0
    else spelled order 4 slot.offset

-- the 12 bytes of an entry
abbrev pub slot_text : Order → Offsets → Slot → List ℕ
slot_text order offsets slot =
    spelled order 2 slot.tag
    ++ (spelled order 2 (content_type slot.content)
    ++ (spelled order 4 (content_count slot.content) ++ element order offsets slot))

-- a slot that can be settled and sent: its value is of a known type, and its numbers fit into 32
-- bits
pub record IsReady (offsets : Offsets) (slot : Slot) : Type 0 where
  pub settles : Settles offsets slot.content
  pub known : IsKnownContent slot.content
  pub room : content_size slot.content ≤ 4294967295

-- where the next value may be behind that of a slot
abbrev pub after_slot : ℕ → Slot → ℕ
after_slot start slot = after_value start (content_size slot.content)

-- where the values of slots end, the first of which may be from an offset on
abbrev pub values_end : ℕ → List Slot → ℕ
values_end start slots = state after_slot start slots

-- a slot with its size, and with the offset of its value where that isn't in the entry and may be
-- from an offset on
abbrev pub settle_slot : ℕ → Slot → Slot
settle_slot start slot =
    if nat_le (content_size slot.content) 4 then record slot { size = content_size slot.content }
    else record slot {
      size = content_size slot.content;
      offset = even start;
      padded = start % 2 == 1;
    }

-- a slot whose size can be settled
pub record IsMeasurable (slot : Slot) : Type 0 where
  pub known : IsKnownContent slot.content
  pub room : content_size slot.content ≤ 4294967295

-- slots with their sizes and offsets, whose values are one behind the other
abbrev pub settle : ℕ → List Slot → List Slot
settle start [] = []
settle start (slot ∷ slots) = settle_slot start slot ∷ settle (after_slot start slot) slots

-- what is required of settled slots
pub record IsSettled (start : ℕ) (slot : Slot) : Type 0 where
  pub size : slot.size ≡ content_size slot.content
  pub offset : nat_le (content_size slot.content) 4 ≡ false → slot.offset ≡ even start
  pub padded : nat_le (content_size slot.content) 4 ≡ false → slot.padded ≡ (start % 2 == 1)

-- each of some slots is settled from where the values of those before it end
abbrev pub AreSettled : ℕ → List Slot → Type 0
AreSettled start [] = ⊤
AreSettled start (slot ∷ slots) = IsSettled start slot × AreSettled (after_slot start slot) slots

-- the entries of a directory
abbrev pub entries_text : Order → Offsets → List Slot → List ℕ
entries_text order offsets slots = flat_map (slot_text order offsets) slots

-- a directory, if it has entries
abbrev pub slots_text : Order → Offsets → ℕ → List Slot → List ℕ
slots_text order offsets next [] = []
slots_text order offsets next (slot ∷ slots) =
    spelled order 2 (length (slot ∷ slots))
    ++ (entries_text order offsets (slot ∷ slots) ++ spelled order 4 next)

-- a value that isn't in its entry, behind a zero where it needs one
abbrev pub value_text : Order → Offsets → Slot → List ℕ
value_text order offsets slot =
    if nat_le slot.size 4
    then []
    else replicate (if slot.padded then 1 else 0) 0 ++ encode order (settled offsets slot.content)

-- the values of a directory that are not in its entries
abbrev pub values_text : Order → Offsets → List Slot → List ℕ
values_text order offsets slots = flat_map (value_text order offsets) slots

-- the bytes of blocks, one behind the other
abbrev pub blocks_text : List (Bor (List ℕ)) → List ℕ
blocks_text blocks = flat_map (λ block. block.now) blocks
