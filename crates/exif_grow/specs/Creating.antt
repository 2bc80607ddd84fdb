-- A field put into a directory that the data lack: the directory is appended with the field alone,
-- after the one that is to point at it, which is appended anew with the pointer (Exif 2.32, 4.6.3).
use Rattle.std.specs.Prelude.{ℕ, ◌+◌, Bool, true, false, List, [], ◌∷◌, ◌++◌, length, Option, Some, None, Result}
use Rattle.exif_base.specs.Orders.{number_of, order_named}
use Rattle.exif_base.specs.declared.endian.Order.{Order}
use Rattle.exif_table.specs.declared.context.Context.{Context}
use Rattle.exif_table.specs.declared.context.Context.TheVariants.{Tiff, Exif, Gps, Interop}
use Rattle.exif_text.specs.declared.ifd.In.{In}
use Rattle.exif_types.specs.declared.tag.Tag.{Tag}
use Rattle.exif_types.specs.declared.value.Value.{Value}
use Rattle.exif_types.specs.declared.field.Field.{Field}
use Rattle.exif_layout.specs.Encoding.{encode, moved_to, spelled}
use Rattle.exif_layout.specs.Refused.{is_unknown}
use Rattle.exif_edit_base.specs.Causes.{Cause, no_directory, of_data, or_cause, offset_named, unknown_type, unless, ◌>>=◌}
use Rattle.exif_edit_base.specs.Readings.{Read, reading}
use Rattle.exif_edit.specs.Setting.{names_offsets, set_offset}
use Rattle.exif_grow.specs.Appending.{span_cleared}
use Rattle.exif_grow.specs.Directories.{directory_named, leading_in}
use Rattle.exif_grow.specs.Growing.{Added, aligned}
use Rattle.exif_grow.specs.Inserting.{directory_bytes, directory_fault, first_with, new_entry, outer_bytes, read_without_offsets, slot_patch, span_of, value_offset}
use Rattle.exif_grow.specs.declared.create.Parent.{Parent}
use Rattle.exif_grow.specs.declared.directories.Directory.{Directory}

-- the context of the directory that points at those of a context, and the tag that does
abbrev pub parent_of : Context → Option Parent
parent_of Tiff = None
parent_of Exif = Some (record { context = Tiff; tag = 0x8769 })
parent_of Gps = Some (record { context = Tiff; tag = 0x8825 })
parent_of Interop = Some (record { context = Exif; tag = 0xa005 })

-- an entry of the tag n whose value is the offset of a directory: one number of type LONG
abbrev pub pointer_entry : Order → ℕ → ℕ → List ℕ
pointer_entry order n offset =
    spelled order 2 n ++ (spelled order 2 4 ++ (spelled order 4 1 ++ spelled order 4 offset))

-- the bytes of a directory of one entry, which is the last of its chain
abbrev pub child_bytes : Order → List ℕ → List ℕ
child_bytes order entry = spelled order 2 1 ++ (entry ++ spelled order 4 0)

-- the offset of what follows it, if the directory that points at it is appended to data of a length
abbrev pub child_value_offset : Directory → ℕ → ℕ
child_value_offset d n = value_offset d n + 18

-- what is added for a field in a new directory, to which the tag p of this one points
abbrev pub child_added : Bool → Order → ℕ → ℕ → Value → List ℕ → Directory → Added
child_added clear order p n value bytes d =
    let total = length bytes in
    let entry = new_entry order n value (child_value_offset d total) in
    record {
      patches = span_cleared clear (span_of d) ++ slot_patch order d total ∷ [];
      tail = aligned total
          (directory_bytes order bytes d (leading_in (number_of order) bytes p d)
          (pointer_entry order p (value_offset d total))
          ++ (child_bytes order entry ++ outer_bytes (encode order value)));
    }

-- the new field
abbrev pub child_field : Order → Tag → In → Value → Directory → ℕ → Field
child_field order tag k value d n = record {
  tag = tag;
  ifd_num = k;
  value = moved_to
      (set_offset (child_value_offset d n) (value_offset d n + 2) (encode order value)) value;
}

-- what puts a field into a new directory, to which the tag p of this one is to point
unfoldable pub created_in : Tag → In → Value → List ℕ → Read → ℕ → Directory → Result Added Cause
created_in tag k value bytes read p d =
    let order = order_named read.little in
    let n = length bytes in
    directory_fault order value d (child_value_offset d n) n
    >>= λ u. first_with tag k (child_field order tag k value d n) (read_without_offsets read)
    bytes (child_added true order p tag.1 value bytes d)
    (child_added false order p tag.1 value bytes d)

-- the same, where the directory that is to point at it is found
unfoldable pub created_under : Tag → In → Value → List ℕ → Read → Parent → Result Added Cause
created_under tag k value bytes read parent = do
  d ← or_cause
      (directory_named (number_of (order_named read.little)) bytes parent.context k.0)
      no_directory
  created_in tag k value bytes read parent.tag d

-- what puts a field into a new directory of its name
unfoldable pub created : List ℕ → Tag → In → Value → Result Added Cause
created bytes tag k value = do
  read ← of_data (reading bytes)
  parent ← or_cause (parent_of tag.0) no_directory
  created_under tag k value bytes read parent

-- the same, or why it is refused
unfoldable pub create_answer : List ℕ → Tag → In → Value → Result Added Cause
create_answer bytes tag k value = do
  a ← unless (names_offsets tag) offset_named
  b ← unless (is_unknown value) unknown_type
  created bytes tag k value
