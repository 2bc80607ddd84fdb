-- The entries of directories in the order in which they are written, before any offset is settled
-- (TIFF 6.0, section 2, "Sort Order"; Exif 2.32, 4.6.3).
use Rattle.std.specs.Prelude.{ℕ, ◌*◌, nat_le, List, [], ◌∷◌, ◌++◌, length, map, Option, Some, None, if◌then◌else◌}
use Rattle.exif_types.specs.declared.value.Value.{Value}
use Rattle.exif_table.specs.declared.context.Context.{Context}
use Rattle.exif_table.specs.declared.context.Context.TheVariants.{Tiff, Exif, Gps, Interop}
use Rattle.exif_layout.specs.declared.block_kind.BlockKind.{BlockKind}
use Rattle.exif_layout.specs.declared.block_kind.BlockKind.TheVariants.{Strips, Tiles, Jpeg}
use Rattle.exif_layout.specs.Groups.{Group, Entry, blocks_in, offsets_tag, lengths_tag}
use Rattle.exif_layout.specs.Encoding.{value_len, moved_to}

-- where an entry's value comes from: it is known, or the offsets or the lengths of blocks of these
-- lengths, or the offset of a child directory
pub data Content : Type 0 where
  Known : Value → Content
  OffsetsOf : BlockKind → List ℕ → Content
  LengthsOf : BlockKind → List ℕ → Content
  OffsetOf : Context → Content

-- an entry of a directory
pub record Slot : Type 0 where
  pub tag : ℕ
  pub content : Content

-- a pushed entry; the offset that an undefined value was read at says nothing
abbrev pub known : Entry → Slot
known entry = record { tag = entry.tag; content = Known (moved_to 0 entry.value) }

-- a slot before the first one that has a greater tag, or an equal one
abbrev pub inserted : Slot → List Slot → List Slot
inserted slot [] = slot ∷ []
inserted slot (next ∷ slots) =
    if nat_le slot.tag next.tag then slot ∷ next ∷ slots else next ∷ inserted slot slots

-- in tag order, equal tags in the order in which they came
abbrev pub in_tag_order : List Slot → List Slot
in_tag_order [] = []
in_tag_order (slot ∷ slots) = inserted slot (in_tag_order slots)

-- the two entries of blocks that are set
abbrev pub set_slots : BlockKind → Option (List (List ℕ)) → List Slot
set_slots kind None = []
set_slots kind (Some texts) =
    record { tag = offsets_tag kind; content = OffsetsOf kind (map length texts) }
    ∷ record { tag = lengths_tag kind; content = LengthsOf kind (map length texts) } ∷ []

-- the two entries of a group's blocks of a kind, none where they are not set
abbrev pub block_slots : Group → BlockKind → List Slot
block_slots group kind = set_slots kind (blocks_in group kind)

-- the pointer to a child directory that has entries
abbrev pub pointer_slots : ℕ → Context → List Slot → List Slot
pointer_slots tag child [] = []
pointer_slots tag child (slot ∷ slots) = record { tag = tag; content = OffsetOf child } ∷ []

-- the entries of the Interop directory as they are written: pushed ones alone
unfoldable pub interop_slots : Group → List Slot
interop_slots group = in_tag_order (map known group.interop)

-- the entries of the GPS directory as they are written: pushed ones alone
unfoldable pub gps_slots : Group → List Slot
gps_slots group = in_tag_order (map known group.gps)

-- the entries of the Exif directory as they come: pushed ones, and any pointer to Interop
abbrev pub exif_unsorted : Group → List Slot
exif_unsorted group = map known group.exif ++ pointer_slots 0xa005 Interop (interop_slots group)

-- the entries of the Exif directory as they are written: those that come, in tag order
unfoldable pub exif_slots : Group → List Slot
exif_slots group = in_tag_order (exif_unsorted group)

-- the entries of the chain's directory as they come: pushed ones, the blocks', any pointers
abbrev pub tiff_unsorted : Group → List Slot
tiff_unsorted group =
    map known group.tiff
    ++ block_slots group Strips
    ++ block_slots group Tiles
    ++ block_slots group Jpeg
    ++ pointer_slots 0x8769 Exif (exif_slots group)
    ++ pointer_slots 0x8825 Gps (gps_slots group)

-- the entries of the TIFF directory as they are written: those that come, in tag order
unfoldable pub tiff_slots : Group → List Slot
tiff_slots group = in_tag_order (tiff_unsorted group)

-- the entries of the directory of a context as they come
abbrev pub unsorted : Group → Context → List Slot
unsorted group Tiff = tiff_unsorted group
unsorted group Exif = exif_unsorted group
unsorted group Gps = map known group.gps
unsorted group Interop = map known group.interop

-- the entries of the directory of a context as they are written, in tag order
abbrev pub slots_of : Group → Context → List Slot
slots_of group Tiff = tiff_slots group
slots_of group Exif = exif_slots group
slots_of group Gps = gps_slots group
slots_of group Interop = interop_slots group

-- the blocks of a kind, none where they are not set
abbrev pub block_list : Option (List (List ℕ)) → List (List ℕ)
block_list None = []
block_list (Some texts) = texts

-- what is written of a group: the entries of each directory in tag order, and the blocks
pub record Draft : Type 0 where
  pub slots : Context → List Slot
  pub blocks : BlockKind → List (List ℕ)

-- the draft of a group: its entries in tag order, and its blocks, none of a kind that is not set
abbrev pub draft_of : Group → Draft
draft_of group =
    record { slots = slots_of group; blocks = λ kind. block_list (blocks_in group kind) }

-- how many bytes the value of an entry takes
abbrev pub content_len : Content → ℕ
content_len (Known value) = value_len value
content_len (OffsetsOf kind lengths) = 4 * length lengths
content_len (LengthsOf kind lengths) = 4 * length lengths
content_len (OffsetOf context) = 4
