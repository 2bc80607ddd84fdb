-- What makes a HEIF file hold Exif data of any length: their item is appended in a box of its own.
use Rattle.std.specs.Prelude.{ℕ, ◌+◌, ◌-◌, ◌^◌, nat_lt, not, Bool, true, false, if◌then◌else◌, List, [], ◌∷◌, ◌++◌, length, replicate, Result, Ok, Err, codes}
use Rattle.std.specs.Int.{to_be_bytes, w32}
use Rattle.exif_grow.specs.ItemFields.{ItemFields, are_closed, item_fields}
use Rattle.exif_isobmff.specs.declared.locations.Extent.{Extent}
use Rattle.exif_edit_base.specs.Causes.{Cause, of_container, shared, unless, ◌>>=◌}
use Rattle.exif_edit_base.specs.declared.patch.Patch.{Patch}
use Rattle.exif_edit.specs.InFiles.{holds}
use Rattle.exif_grow.specs.Growing.{Added, grown}
use Rattle.exif_grow.specs.Entries.{moved_entry, number_len}
use Rattle.exif_grow.specs.Refusals.{large, narrow, open_ended, several}

-- a box of media data (ISO/IEC 14496-12:2015, 8.1.1) that holds an item
abbrev pub media_box : List ℕ → List ℕ
media_box item = to_be_bytes w32 (8 + length item) ++ (codes "mdat" ++ item)

-- zeros over a range, or nothing
abbrev pub range_cleared : Bool → Extent → List Patch
range_cleared true e = record { offset = e.offset; bytes = replicate e.len 0 } ∷ []
range_cleared false e = []

-- the text of an entry at its offset
abbrev pub entry_patch : ℕ → List ℕ → Patch
entry_patch offset text = record { offset = offset; bytes = text }

-- what moves an item out of a range: a patch of its entry, and a box that holds it
abbrev pub item_added : Bool → Extent → Patch → List ℕ → Added
item_added clear range entry item = record {
  patches = range_cleared clear range ++ entry ∷ [];
  tail = media_box item;
}

-- what is added, if the file holds the new data then
abbrev pub if_held : List ℕ → List ℕ → Added → Result Added Cause
if_held file new a = if holds (grown a file) new then Ok a else Err shared

-- the first of two with which it does
abbrev pub first_held : List ℕ → List ℕ → Added → Added → Result Added Cause
first_held file new a b = if holds (grown a file) new then Ok a else if_held file new b

-- the range of an item that has one
abbrev pub one_range : List Extent → Result Extent Cause
one_range [] = Err several
one_range (e ∷ []) = Ok e
one_range (e ∷ f ∷ es) = Err several

-- the offset of an entry behind the item's number
abbrev pub fields_offset : ItemFields → ℕ
fields_offset f = f.offset + number_len f.entry.version

-- what moves an item out of a range: the item has its old header and the new data; its old bytes
-- become zeros, unless the file would be read otherwise then
unfoldable pub item_moved : List ℕ → List ℕ → ItemFields → Extent → Result Added Cause
item_moved file new fields range =
    let item = fields.header ++ new in
    let offset = fields_offset fields in do
      far ← unless (nat_lt (2 ^ 64 - 1) (length file + 8)) narrow
      much ← unless (nat_lt 65535 (length item)) large
      text ← moved_entry fields.entry (length file + 8) (length item)
      past ← unless (nat_lt (length file) (offset + length text)) shared
      out ← unless (nat_lt (length file) (range.offset + range.len)) shared
      let entry = entry_patch offset text
      first_held file new (item_added true range entry item) (item_added false range entry item)

-- what makes a file hold new Exif data, or why that is refused
unfoldable pub item_growth : List ℕ → List ℕ → Result Added Cause
item_growth file new = do
  fields ← of_container (item_fields file)
  ended ← unless (not (are_closed file)) open_ended
  range ← one_range fields.ranges
  item_moved file new fields range

-- the file with it
unfoldable pub item_grown : List ℕ → List ℕ → Result (List ℕ) Cause
item_grown file new = item_growth file new >>= λ a. Ok (grown a file)
