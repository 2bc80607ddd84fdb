-- Worked examples: the definitions compute where the entries of items are, what they say once the
-- items are moved, and boxes, by bytes written by hand.
use Rattle.std.specs.Prelude.{◌≡◌, refl, true, false, ℕ, List, [], ◌∷◌, None, Some, Ok, Err}
use Rattle.exif_types.specs.Refusals.{last_read}
use Rattle.exif_isobmff.specs.Boxes.{all_boxes, box_at, header_at, times}
use Rattle.exif_isobmff.specs.Entries.{entries, entry_at}
use Rattle.exif_isobmff.specs.HeifRefusals.{unsupported_iloc}
use Rattle.exif_isobmff.specs.ItemLocations.{extent_at, item_head_at, location_at}
use Rattle.exif_grow.specs.Entries.{moved_entry}
use Rattle.exif_grow.specs.ItemFields.{are_closed}
use Rattle.exif_grow.specs.Items.{media_box}
use Rattle.exif_grow.specs.Refusals.{narrow}

-- ---- where an entry is

-- version 0, offsets and lengths of 4 bytes: item 1 at 0x69, of 0x25 bytes
abbrev one_item : List ℕ
one_item =
    0 ∷ 0 ∷ 0 ∷ 0 ∷ 0x44 ∷ 0 ∷ 0 ∷ 1
    ∷ 0 ∷ 1 ∷ 0 ∷ 0 ∷ 0 ∷ 1 ∷ 0 ∷ 0 ∷ 0 ∷ 0x69 ∷ 0 ∷ 0 ∷ 0 ∷ 0x25 ∷ []

-- its entry has 14 bytes, which end the box
found_one : entries 1 one_item
    ≡ Ok (record {
      left = 14;
      version = 0;
      sizes = record { offset = 4; len = 4; base = 0; index = 0 };
    } ∷ [])
unfolding entries entry_at location_at item_head_at extent_at times
found_one = refl

-- no entry of another item
found_none : entries 2 one_item ≡ Ok []
unfolding entries entry_at location_at item_head_at extent_at times
found_none = refl

-- version 1, offsets, lengths and bases of 8, 4 and 4 bytes: item 7 twice, in `idat` and then in
-- the file, and a byte that nothing says
abbrev two_items : List ℕ
two_items =
    1 ∷ 0 ∷ 0 ∷ 0 ∷ 0x84 ∷ 0x40 ∷ 0 ∷ 2
    ∷ 0 ∷ 7 ∷ 0 ∷ 1 ∷ 0 ∷ 0 ∷ 0 ∷ 0 ∷ 0 ∷ 3 ∷ 0 ∷ 1 ∷ 0 ∷ 0 ∷ 0 ∷ 0 ∷ 0 ∷ 0 ∷ 0 ∷ 0 ∷ 0 ∷ 0 ∷ 0 ∷ 8
    ∷ 0 ∷ 7 ∷ 0 ∷ 0 ∷ 0 ∷ 0 ∷ 0 ∷ 0 ∷ 0 ∷ 0 ∷ 0 ∷ 1 ∷ 0 ∷ 0 ∷ 0 ∷ 0 ∷ 0 ∷ 0 ∷ 0 ∷ 9 ∷ 0 ∷ 0 ∷ 0 ∷ 8
    ∷ 255 ∷ []

-- the last entry counts: 24 bytes, and the byte after them
found_last : last_read None (entries 7 two_items)
    ≡ Ok (Some (record {
      left = 25;
      version = 1;
      sizes = record { offset = 8; len = 4; base = 4; index = 0 };
    }))
unfolding entries entry_at location_at item_head_at extent_at times
found_last = refl

-- a version that is not known
unknown_version : entries 1 (3 ∷ 0 ∷ 0 ∷ 0 ∷ 0x44 ∷ 0 ∷ 0 ∷ 0 ∷ []) ≡ Err unsupported_iloc
unfolding entries
unknown_version = refl

-- ---- what it says then

-- version 0: data reference 0, one extent, offset 0x96 and length 0x3b
version_0 : moved_entry (record {
  left = 14;
  version = 0;
  sizes = record { offset = 4; len = 4; base = 0; index = 0 };
}) 0x96 0x3b
    ≡ Ok (0 ∷ 0 ∷ 0 ∷ 1 ∷ 0 ∷ 0 ∷ 0 ∷ 0x96 ∷ 0 ∷ 0 ∷ 0 ∷ 0x3b ∷ [])
unfolding moved_entry
version_0 = refl

-- version 1, with an index of 4 bytes, and a base that is too narrow: method 0, data reference 0,
-- base 0
version_1 : moved_entry (record {
  left = 30;
  version = 1;
  sizes = record { offset = 8; len = 4; base = 4; index = 4 };
}) 0x100000002 0x3b
    ≡ Ok (0 ∷ 0 ∷ 0 ∷ 0 ∷ 0 ∷ 0 ∷ 0 ∷ 0 ∷ 0 ∷ 1 ∷ 0 ∷ 0 ∷ 0 ∷ 0
    ∷ 0 ∷ 0 ∷ 0 ∷ 1 ∷ 0 ∷ 0 ∷ 0 ∷ 2 ∷ 0 ∷ 0 ∷ 0 ∷ 0x3b ∷ [])
unfolding moved_entry
version_1 = refl

-- the item tables that heif-enc writes for AVIF: the base is the offset, and the extent has 0
with_base : moved_entry (record {
  left = 16;
  version = 0;
  sizes = record { offset = 4; len = 4; base = 4; index = 0 };
}) 0x96 0x3b
    ≡ Ok (0 ∷ 0 ∷ 0 ∷ 0 ∷ 0 ∷ 0x96 ∷ 0 ∷ 1 ∷ 0 ∷ 0 ∷ 0 ∷ 0 ∷ 0 ∷ 0 ∷ 0 ∷ 0x3b ∷ [])
unfolding moved_entry
with_base = refl

-- an extent without an offset: the base is the offset
by_base : moved_entry (record {
  left = 20;
  version = 1;
  sizes = record { offset = 0; len = 4; base = 4; index = 0 };
}) 0x96 0x3b
    ≡ Ok (0 ∷ 0 ∷ 0 ∷ 0 ∷ 0 ∷ 0 ∷ 0 ∷ 0x96 ∷ 0 ∷ 1 ∷ 0 ∷ 0 ∷ 0 ∷ 0x3b ∷ [])
unfolding moved_entry
by_base = refl

-- an offset that 4 bytes do not hold
too_far : moved_entry (record {
  left = 14;
  version = 0;
  sizes = record { offset = 4; len = 4; base = 0; index = 0 };
}) 0x100000000 0x3b
    ≡ Err narrow
unfolding moved_entry
too_far = refl

-- a length without a field
no_length : moved_entry (record {
  left = 10;
  version = 0;
  sizes = record { offset = 4; len = 0; base = 0; index = 0 };
}) 0x96 0x3b
    ≡ Err narrow
unfolding moved_entry
no_length = refl

-- a box of 8 bytes for its header and 2 for the item
boxed : media_box (1 ∷ 2 ∷ [])
    ≡ 0 ∷ 0 ∷ 0 ∷ 10 ∷ 0x6d ∷ 0x64 ∷ 0x61 ∷ 0x74 ∷ 1 ∷ 2 ∷ []
boxed = refl

-- two boxes, of 8 bytes and of 9
closed : are_closed (0 ∷ 0 ∷ 0 ∷ 8 ∷ 0x66 ∷ 0x72 ∷ 0x65 ∷ 0x65
    ∷ 0 ∷ 0 ∷ 0 ∷ 9 ∷ 0x66 ∷ 0x72 ∷ 0x65 ∷ 0x65 ∷ 1 ∷ []) ≡ true
unfolding are_closed all_boxes box_at header_at
closed = refl

-- one that runs to the end
to_the_end : are_closed (0 ∷ 0 ∷ 0 ∷ 0 ∷ 0x66 ∷ 0x72 ∷ 0x65 ∷ 0x65 ∷ 1 ∷ []) ≡ false
unfolding are_closed all_boxes
to_the_end = refl

-- one that runs past it
past_the_end : are_closed (0 ∷ 0 ∷ 0 ∷ 10 ∷ 0x66 ∷ 0x72 ∷ 0x65 ∷ 0x65 ∷ 1 ∷ []) ≡ false
unfolding are_closed all_boxes box_at header_at
past_the_end = refl
