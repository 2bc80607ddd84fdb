-- Fields of a name erased: their entries are taken out of their directories.
use Rattle.std.specs.Prelude.{ℕ, ◌+◌, ◌*◌, ◌==◌, ◌&&◌, nat_le, Bool, false, not, List, [], ◌∷◌, ◌++◌, length, map, Result, Ok, Err, if◌then◌else◌}
use Rattle.std.specs.Bool.{beq}
use Rattle.std.specs.List.{flat_map, filter, list_any}
use Rattle.std.specs.Cmp.Lexicographic.{pointwise}
use Rattle.exif_base.specs.Bytes.{Reading, bytes_at, number_at}
use Rattle.exif_base.specs.Orders.{number_of, order_named}
use Rattle.exif_base.specs.declared.endian.Order.{Order}
use Rattle.exif_types.specs.FieldEq.{field_eq}
use Rattle.exif_types.specs.Lookup.{is_named}
use Rattle.exif_types.specs.declared.tag.Tag.{Tag}
use Rattle.exif_text.specs.declared.ifd.In.{In}
use Rattle.exif_types.specs.declared.value.Value.{Value}
use Rattle.exif_types.specs.declared.value.Value.TheVariants.{Undefined, Unknown}
use Rattle.exif_types.specs.declared.field.Field.{Field}
use Rattle.exif_tiff.specs.Trace.{directory_end, entry_offsets, whole_entries}
use Rattle.exif_tiff.specs.declared.fault.Fault.{Fault}
use Rattle.exif_layout.specs.Encoding.{spelled}
use Rattle.exif_edit_base.specs.Causes.{Cause, no_field, of_data, offset_named, shared, unless, ◌>>=◌}
use Rattle.exif_edit_base.specs.Finding.{with_value}
use Rattle.exif_edit_base.specs.Patches.{padded, patched, zeros_over}
use Rattle.exif_edit_base.specs.Locations.{located}
use Rattle.exif_edit_base.specs.Readings.{Read, reading}
use Rattle.exif_edit_base.specs.Rereading.{still_reads}
use Rattle.exif_edit_base.specs.declared.patch.Patch.{Patch}
use Rattle.exif_edit_base.specs.declared.patch.Span.{Span}
use Rattle.exif_edit_base.specs.Walked.{entry_of}
use Rattle.exif_edit_base.specs.Spans.{value_span}
use Rattle.exif_edit.specs.Erasing.{directory_span}
use Rattle.exif_edit.specs.Setting.{names_offsets}
use Rattle.exif_tiff.specs.declared.offset.EntryOffset.{EntryOffset}

-- ---- a directory without its entries of a tag (TIFF 6.0, section 2, "Image File Directory")

-- whether the entry at e has the tag n
abbrev pub has_tag : Reading → List ℕ → ℕ → ℕ → Bool
has_tag number bytes n e = number_at number 2 bytes e == n

-- the entries of the directory at p that have the tag, and those that have another one
abbrev pub entries_with : Reading → List ℕ → ℕ → ℕ → List ℕ
entries_with number bytes n p = filter (has_tag number bytes n) (entry_offsets number bytes p)

-- the entries of the directory at p that have another tag
abbrev pub entries_without : Reading → List ℕ → ℕ → ℕ → List ℕ
entries_without number bytes n p =
    filter (λ e. not (has_tag number bytes n e)) (entry_offsets number bytes p)

-- the bytes of entries
abbrev pub entries_bytes : List ℕ → List ℕ → List ℕ
entries_bytes bytes entries = flat_map (bytes_at 12 bytes) entries

-- the offset of the next directory, if the directory has one
abbrev pub next_offset_bytes : Order → Result ℕ Fault → List ℕ
next_offset_bytes order (Ok next) = spelled order 4 next
next_offset_bytes order (Err fault) = []

-- the directory with these entries: how many they are, the entries and the next offset, and zeros
-- up to a length
abbrev pub directory_bytes : Order → List ℕ → ℕ → List ℕ → List ℕ → List ℕ
directory_bytes order bytes count entries next =
    padded (2 + 12 * count + length next)
    (spelled order 2 (length entries) ++ (entries_bytes bytes entries ++ next))

-- the directory at p without its entries of the tag n
abbrev pub directory_without : Order → List ℕ → ℕ → ℕ → List ℕ
directory_without order bytes n p =
    let number = number_of order in
    directory_bytes order bytes (whole_entries number bytes p) (entries_without number bytes n p)
    (next_offset_bytes order (directory_end number bytes p))

-- a patch that lies in data of a length; else none
abbrev pub if_within : ℕ → Patch → List Patch
if_within total p = if nat_le (p.offset + length p.bytes) total then p ∷ [] else []

-- what puts the directory at p without its entries of a tag over it
abbrev pub directory_patches : Order → List ℕ → ℕ → ℕ → List Patch
directory_patches order bytes n p =
    if_within (length bytes) (record { offset = p; bytes = directory_without order bytes n p })

-- where the values of these entries are outside of them
abbrev pub taken_spans : Reading → List ℕ → ℕ → ℕ → List Span
taken_spans number bytes n p = map (value_span number bytes) (entries_with number bytes n p)

-- the values of the entries of the tag n in directories
abbrev pub named_values : Reading → List ℕ → ℕ → List ℕ → List Span
named_values number bytes n offsets = flat_map (taken_spans number bytes n) offsets

-- the directories, and these values
abbrev pub named_spans : Reading → List ℕ → ℕ → List ℕ → List Span
named_spans number bytes n offsets =
    map (directory_span number bytes) offsets ++ named_values number bytes n offsets

-- what takes the entries of the tag n out of directories: these without them, and zeros over their
-- values
abbrev pub removals : Order → List ℕ → ℕ → List ℕ → List Patch
removals order bytes n offsets =
    flat_map (directory_patches order bytes n) offsets
    ++ map zeros_over (named_values (number_of order) bytes n offsets)

-- ---- the directories that have fields of a name

-- an offset among others, each of them once
abbrev pub noted : List ℕ → ℕ → List ℕ
noted offsets p = if list_any (λ q. q == p) offsets then offsets else offsets ++ p ∷ []

-- fields beside the offsets of their entries
abbrev pub directories_with : Tag → In → List Field → List EntryOffset → List ℕ
directories_with tag k (f ∷ fs) (p ∷ ps) =
    if is_named tag k f then noted (directories_with tag k fs ps) p.directory
    else directories_with tag k fs ps
directories_with tag k _ _ = []

-- ---- what is read then

-- the fields but those of a name
abbrev pub without_named : Tag → In → List Field → List Field
without_named tag k fields = filter (λ f. not (is_named tag k f)) fields

-- ---- the whole

-- patches, if what they make is read so
abbrev pub checked_removals : Read → List ℕ → List Patch → Result (List Patch) Cause
checked_removals read bytes patches =
    if still_reads (patched patches bytes) read then Ok patches else Err shared

-- a reading without the fields of a name
abbrev pub read_without : Tag → In → Read → Read
read_without tag k read = record {
  little = read.little;
  fields = without_named tag k read.fields;
  faults = read.faults;
}

-- what takes the fields of a name out of these directories
abbrev pub removals_from : Tag → In → Read → List ℕ → List ℕ → Result (List Patch) Cause
removals_from tag k read bytes [] = Err no_field
removals_from tag k read bytes (p ∷ ps) =
    checked_removals (read_without tag k read) bytes
    (removals (order_named read.little) bytes tag.1 (p ∷ ps))

-- what takes the fields of a name out of all directories that have some, once the data are read
unfoldable pub named_removals : List ℕ → Tag → In → Result (List Patch) Cause
named_removals bytes tag k = do
  read ← of_data (reading bytes)
  removals_from tag k read bytes
      (directories_with tag k read.fields (map entry_of (located bytes)))

-- what erases the fields of a name, or why that is refused
unfoldable pub field_patches : List ℕ → Tag → In → Result (List Patch) Cause
field_patches bytes tag k = do
  a ← unless (names_offsets tag) offset_named
  named_removals bytes tag k

-- the data without them
abbrev pub field_answer : List ℕ → Tag → In → Result (List ℕ) Cause
field_answer bytes tag k = field_patches bytes tag k >>= λ patches. Ok (patched patches bytes)
