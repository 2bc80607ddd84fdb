-- What is promised of edited data.
use Rattle.std.specs.Prelude.{◌≡◌, ℕ, ◌+◌, ◌≤◌, Bool, true, false, List, [], ◌∷◌, length, map, slice_index, Some, None, Ok, if◌then◌else◌}
use Rattle.std.specs.List.{list_any}
use Rattle.exif_base.specs.Orders.{number_of}
use Rattle.exif_base.specs.declared.endian.Order.{Order}
use Rattle.exif_types.specs.Lookup.{last_named}
use Rattle.exif_types.specs.declared.tag.Tag.{Tag}
use Rattle.exif_text.specs.declared.ifd.In.{In}
use Rattle.exif_types.specs.declared.value.Value.{Value}
use Rattle.exif_types.specs.declared.field.Field.{Field}
use Rattle.exif_tiff.specs.Trace.{header, trace, fields_of, faults_of}
use Rattle.exif_tiff.specs.Answers.{answer_of, raw_answer, shown}
use Rattle.exif_tiff.specs.declared.fault.Fault.{Fault}
use Rattle.exif_layout.specs.Encoding.{moved_to}
use Rattle.exif_edit_base.specs.Finding.{last_located, replaced}
use Rattle.exif_edit_base.specs.Patches.{inside}
use Rattle.exif_edit_base.specs.Locations.{Located, located}
use Rattle.exif_edit.specs.Erasing.{gps_spans, without_gps}
use Rattle.exif_edit_base.specs.Rereading.{field_at_entry}
use Rattle.exif_edit.specs.Removing.{directories_with, named_spans, named_values, without_named}
use Rattle.exif_edit_base.specs.Spans.{value_space}
use Rattle.exif_edit.specs.Setting.{set_answer}
use Rattle.exif_edit_base.specs.Walked.{entry_of}

-- in both modes the data are read as these fields and faults
abbrev pub ReadAs : List ℕ → List Field → List Fault → Type 0
ReadAs bytes fields faults =
    (lenient : Bool)
    → raw_answer lenient None bytes
    ≡ answer_of lenient (record { fields = fields; faults = faults })

-- the last field of a name has another value, and all else is as it was
pub record IsSet (old : List ℕ) (tag : Tag) (k : In) (value : Value) (new : List ℕ) : Type 0 where
  pub order : Order
  pub header : header old ≡ Ok order
  pub offset : ℕ
  pub reads : ReadAs new (replaced tag k (moved_to offset value) (fields_of (trace old)))
      (faults_of (trace old))
  pub at : Located
  pub found : last_located tag k (located old) ≡ Some at
  pub as_long : length new ≡ length old
  pub outside : (i : ℕ) → inside i (record { offset = at.entry + 2; len = 10 }) ≡ false
      → inside i (value_space (number_of order) old at.entry) ≡ false
      → slice_index new i ≡ slice_index old i

-- a look-up of the name in what is read gives the value
abbrev pub FindsValue : Tag → In → Value → List ℕ → Type 0
FindsValue tag k value bytes =
    (lenient : Bool) (fields : List Field) (faults : List Fault)
    → raw_answer lenient None bytes ≡ shown fields faults
    → (offset : ℕ) × (last_named fields tag k
    ≡ Some (record { tag = tag; ifd_num = k; value = moved_to offset value }))

-- the GPS directories and their values are zero bytes, and all else is as it was
pub record IsErased (old new : List ℕ) : Type 0 where
  pub order : Order
  pub header : header old ≡ Ok order
  pub as_long : length new ≡ length old
  pub bytes : (i : ℕ) → slice_index new i
      ≡ (if list_any (inside i) (gps_spans (number_of order) old) then 0 else slice_index old i)
  pub faults : List Fault
  pub reads : ReadAs new (without_gps (fields_of (trace old))) faults
  pub fewer : length faults ≤ length (faults_of (trace old))

-- the fields, each as its entry gives it
abbrev pub told_by : List Located → List Field → List Field
told_by (l ∷ ls) (f ∷ fs) = field_at_entry l.entry f ∷ told_by ls fs
told_by _ _ = []

-- the directories that have fields of a name
abbrev pub named_directories : List ℕ → Tag → In → List ℕ
named_directories bytes tag k =
    directories_with tag k (fields_of (trace bytes)) (map entry_of (located bytes))

-- the fields of a name are gone, their values are zero bytes, and all bytes that are neither there
-- nor in their directories is as it was
pub record IsFieldErased (old : List ℕ) (tag : Tag) (k : In) (new : List ℕ) : Type 0 where
  pub order : Order
  pub header : header old ≡ Ok order
  pub as_long : length new ≡ length old
  pub faults : List Fault
  pub reads : ReadAs new
      (told_by (located new) (without_named tag k (fields_of (trace old)))) faults
  pub fewer : length faults ≤ length (faults_of (trace old))
  pub values : (i : ℕ)
      → list_any (inside i) (named_values (number_of order) old tag.1 (named_directories old tag k))
      ≡ true → slice_index new i ≡ 0
  pub outside : (i : ℕ)
      → list_any (inside i) (named_spans (number_of order) old tag.1 (named_directories old tag k))
      ≡ false → slice_index new i ≡ slice_index old i

-- a look-up of the name in what is read finds nothing
abbrev pub FindsNone : Tag → In → List ℕ → Type 0
FindsNone tag k bytes =
    (lenient : Bool) (fields : List Field) (faults : List Fault)
    → raw_answer lenient None bytes ≡ shown fields faults → last_named fields tag k ≡ None

-- ---- laws

-- the last field of a name is where it was, and its value has the same space
pub record KeepsOffset (tag : Tag) (k : In) (old new : List ℕ) : Type 0 where
  pub order : Order
  pub before : header old ≡ Ok order
  pub after : header new ≡ Ok order
  pub at : Located
  pub was : last_located tag k (located old) ≡ Some at
  pub now : Located
  pub is : last_located tag k (located new) ≡ Some now
  pub entry : now.entry ≡ at.entry
  pub space : value_space (number_of order) new at.entry ≡ value_space (number_of order) old at.entry

-- the value that is there, set again after another, gives the bytes from before
abbrev pub SetsBack : Tag → In → Value → Value → List ℕ → Type 0
SetsBack tag k value first old =
    (new back : List ℕ) → set_answer old tag k first ≡ Ok old → set_answer old tag k value ≡ Ok new
    → KeepsOffset tag k old new → set_answer new tag k first ≡ Ok back → back ≡ old
