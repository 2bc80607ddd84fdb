-- What is promised of data that have grown.
use Rattle.std.specs.Prelude.{◌≡◌, ℕ, ◌+◌, ◌<◌, ◌^◌, ◌⊎◌, false, not, List, [], ◌∷◌, All, length, slice_index, Some, Ok}
use Rattle.std.specs.List.{filter}
use Rattle.exif_base.specs.Orders.{number_of}
use Rattle.exif_base.specs.declared.endian.Order.{Order}
use Rattle.exif_types.specs.declared.tag.Tag.{Tag}
use Rattle.exif_text.specs.declared.ifd.In.{In}
use Rattle.exif_types.specs.Lookup.{is_named}
use Rattle.exif_types.specs.declared.value.Value.{Value}
use Rattle.exif_types.specs.declared.field.Field.{Field}
use Rattle.exif_tiff.specs.Trace.{header, trace, fields_of, faults_of}
use Rattle.exif_layout.specs.Encoding.{moved_to}
use Rattle.exif_edit_base.specs.Finding.{last_located, replaced}
use Rattle.exif_edit_base.specs.Locations.{Located, located}
use Rattle.exif_edit_base.specs.Patches.{inside}
use Rattle.exif_edit_base.specs.declared.patch.Patch.{Patch}
use Rattle.exif_edit.specs.Promises.{ReadAs}
use Rattle.exif_edit_base.specs.Rereading.{without_entry_offsets}
use Rattle.exif_edit.specs.Removing.{without_named}
use Rattle.exif_edit_base.specs.Spans.{value_space}
use Rattle.exif_grow.specs.Appending.{appended_offset}
use Rattle.exif_grow.specs.Creating.{child_field, parent_of}
use Rattle.exif_grow.specs.Directories.{directory_named, leading_in}
use Rattle.exif_grow.specs.Growing.{Added, grown}
use Rattle.exif_grow.specs.Inserting.{new_field, span_of}
use Rattle.exif_grow.specs.declared.create.Parent.{Parent}
use Rattle.exif_grow.specs.declared.directories.Directory.{Directory}

-- the last field of a name has another value, and all other fields and the faults are as they were;
-- no old byte has changed, but for ten bytes of the field's entry and those of its old value
pub record IsAppended (old : List ℕ) (tag : Tag) (k : In) (value : Value) (new : List ℕ) : Type 0
  where
    pub order : Order
    pub header : header old ≡ Ok order
    pub at : Located
    pub found : last_located tag k (located old) ≡ Some at
    pub reads : ReadAs new
        (replaced tag k
        (moved_to (appended_offset order value at.entry (length old)) value)
        (fields_of (trace old)))
        (faults_of (trace old))
    pub small : length new < 2 ^ 32
    pub outside : (i : ℕ) → i < length old
        → inside i (record { offset = at.entry + 2; len = 10 }) ≡ false
        → inside i (value_space (number_of order) old at.entry) ≡ false
        → slice_index new i ≡ slice_index old i

-- one more field is read, and all others and the faults are as they were, but for the offsets of
-- values that are in their entries; no old byte has changed, but for the four that hold the offset
-- of the field's directory, and those of that directory
pub record IsInserted (old : List ℕ) (tag : Tag) (k : In) (value : Value) (new : List ℕ) : Type 0
  where
    pub order : Order
    pub header : header old ≡ Ok order
    pub at : Directory
    pub found : directory_named (number_of order) old tag.0 k.0 ≡ Some at
    pub reads : ReadAs new (fields_of (trace new)) (faults_of (trace old))
    pub others : without_entry_offsets (without_named tag k (fields_of (trace new)))
        ≡ without_entry_offsets (fields_of (trace old))
    pub only : filter (is_named tag k) (fields_of (trace new))
        ≡ new_field order tag k value at (leading_in (number_of order) old tag.1 at) (length old)
        ∷ []
    pub small : length new < 2 ^ 32
    pub outside : (i : ℕ) → i < length old
        → inside i (record { offset = at.slot; len = 4 }) ≡ false
        → inside i (span_of at) ≡ false
        → slice_index new i ≡ slice_index old i

-- one more field is read, in a directory that was not there, and all others and the faults are as
-- they were, but for the offsets of values that are in their entries; no old byte has changed, but
-- for the four that hold the offset of the directory that points at the new one, and those of that
-- directory
pub record IsCreated (old : List ℕ) (tag : Tag) (k : In) (value : Value) (new : List ℕ) : Type 0
  where
    pub order : Order
    pub header : header old ≡ Ok order
    pub parent : Parent
    pub is_parent : parent_of tag.0 ≡ Some parent
    pub at : Directory
    pub found : directory_named (number_of order) old parent.context k.0 ≡ Some at
    pub reads : ReadAs new (fields_of (trace new)) (faults_of (trace old))
    pub others : without_entry_offsets (without_named tag k (fields_of (trace new)))
        ≡ without_entry_offsets (fields_of (trace old))
    pub only : filter (is_named tag k) (fields_of (trace new))
        ≡ child_field order tag k value at (length old) ∷ []
    pub small : length new < 2 ^ 32
    pub outside : (i : ℕ) → i < length old
        → inside i (record { offset = at.slot; len = 4 }) ≡ false
        → inside i (span_of at) ≡ false
        → slice_index new i ≡ slice_index old i

-- ---- of any of them

-- the last field of a name has another value, and all others are as they were
abbrev pub IsReplaced : Tag → In → Value → List Field → List Field → Type 0
IsReplaced tag k value old new =
    (offset : ℕ) × (new ≡ replaced tag k (moved_to offset value) old)

-- there is one more field, and all others are as they were, but for the offsets of values that are
-- in their entries
pub record IsAdded (tag : Tag) (k : In) (value : Value) (old new : List Field) : Type 0 where
  pub offset : ℕ
  pub only : filter (is_named tag k) new
      ≡ record { tag = tag; ifd_num = k; value = moved_to offset value } ∷ []
  pub others : without_entry_offsets (without_named tag k new) ≡ without_entry_offsets old

-- reading gives the old fields with that one replaced or added, and the same faults
pub record IsGrown (old : List ℕ) (tag : Tag) (k : In) (value : Value) (new : List ℕ) : Type 0
  where
    pub reads : ReadAs new (fields_of (trace new)) (faults_of (trace old))
    pub fields : IsReplaced tag k value (fields_of (trace old)) (fields_of (trace new))
        ⊎ IsAdded tag k value (fields_of (trace old)) (fields_of (trace new))
    pub small : length new < 2 ^ 32

-- ---- laws

-- no byte of a patch is at an offset
abbrev pub Spares : ℕ → Patch → Type 0
Spares i p = inside i (record { offset = p.offset; len = length p.bytes }) ≡ false

-- the new data begin with the old ones, but for what the patches cover
pub record KeepsOld (a : Added) (bytes : List ℕ) : Type 0 where
  pub longer : length (grown a bytes) ≡ length bytes + length a.tail
  pub outside : (i : ℕ) → i < length bytes → All (Spares i) a.patches
      → slice_index (grown a bytes) i ≡ slice_index bytes i
