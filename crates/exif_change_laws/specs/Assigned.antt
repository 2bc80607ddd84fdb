-- What is read of files in which assigned values were set.
use Rattle.std.specs.Prelude.{◌≡◌, ◌<◌, ◌≤◌, ◌^◌, ℕ, true, List, [], ◌∷◌, ◌++◌, length, All, Some, Result, Ok, Err}
use Rattle.exif_base.specs.declared.endian.Order.TheVariants.{Big}
use Rattle.exif_text.specs.declared.ifd.In.{In}
use Rattle.exif_types.specs.Refusals.{Refusal, not_found}
use Rattle.exif_types.specs.declared.field.Field.{Field}
use Rattle.exif_types.specs.declared.tag.Tag.{Tag}
use Rattle.exif_types.specs.declared.value.Value.{Value}
use Rattle.exif_tiff.specs.Trace.{fields_of, trace, visits_of}
use Rattle.exif_containers.specs.Container.{container_answer}
use Rattle.exif_layout.specs.Flat.{flat}
use Rattle.exif_layout.specs.Image.{image}
use Rattle.exif_layout.specs.Rewriting.{pushed_all}
use Rattle.exif_edit_base.specs.Finding.{last_located}
use Rattle.exif_edit_base.specs.Locations.{Located, located}
use Rattle.exif_edit.specs.Setting.{set_answer}
use Rattle.exif_grow.specs.FieldPromises.{IsThere, bare, same_name}
use Rattle.exif_assign.specs.declared.assignment.Assignment.{Assignment}
use Rattle.exif_change.specs.Changed.{whole}
use Rattle.exif_setting.specs.InPlace.{field_set}
use Rattle.exif_change.specs.Reading.{Contents, file_contents}
use Rattle.exif_setting.specs.SetLaws.{KeepsOthers}
use Rattle.exif_setting.specs.Setting.{assigned_fields, set_file}
use Rattle.exif_change_laws.specs.Positions.{extents}

-- a field has this value, if it has this name
abbrev pub HasValueOf : Field → Field → Type 0
HasValueOf g f = same_name g f ≡ true → bare f.value ≡ bare g.value

-- among these fields is one of this name, and each of them has this value
pub record IsReadAs (fields : List Field) (g : Field) : Type 0 where
  pub there : IsThere fields g
  pub values : All (HasValueOf g) fields

-- new data have these fields, and all else is as in the old data
pub record AreAssigned (sets : List Field) (old new : List ℕ) : Type 0 where
  pub values : All (IsReadAs (fields_of (trace new))) sets
  pub kept : KeepsOthers sets old new

-- an answer gives such data
abbrev pub GivesAssigned : List Field → List ℕ → Result (List ℕ) Refusal → Type 0
GivesAssigned sets old (Ok new) = AreAssigned sets old new
GivesAssigned sets old (Err refusal) = ⊥

-- in both data these fields are read, and all else is the same
pub record AreAssignedInBoth (sets : List Field) (first second : List ℕ) : Type 0 where
  pub in_first : All (IsReadAs (fields_of (trace first))) sets
  pub in_second : All (IsReadAs (fields_of (trace second))) sets
  pub kept : KeepsOthers sets first second

-- an answer gives such data beside the first ones
abbrev pub GivesAssignedAgain : List Field → List ℕ → Result (List ℕ) Refusal → Type 0
GivesAssignedAgain sets first (Ok second) = AreAssignedInBoth sets first second
GivesAssignedAgain sets first (Err refusal) = ⊥

-- the last field of a name has its entry at the same offset in both data
abbrev pub KeepsEntry : Tag → In → List ℕ → List ℕ → Type 0
KeepsEntry tag k old new =
    (before after : Located) → last_located tag k (located old) ≡ Some before
    → last_located tag k (located new) ≡ Some after → after.entry ≡ before.entry

-- ---- files in which values were set

-- a file that has Exif data, in which assigned values were set, and the new file
pub record SetOnce : Type 0 where
  pub assignments : List Assignment
  pub sets : List Field × List Field
  pub file : List ℕ
  pub new : List ℕ
  pub old : Contents
  pub short : length file < 2 ^ 64
  pub still_short : length new < 2 ^ 64
  pub read : file_contents file ≡ Ok old
  pub fields : assigned_fields file assignments ≡ Ok sets
  pub made : set_file assignments file ≡ Ok (whole new)

-- the fields that were set in it
abbrev pub all_set : SetOnce → List Field
all_set s = s.sets.0 ++ s.sets.1

-- such a file in which the same values were set again; of the new file few entries are read
pub record SetTwice : Type 0 where
  pub first : SetOnce
  pub again : List ℕ
  pub now : Contents
  pub short : length again < 2 ^ 64
  pub read : file_contents first.new ≡ Ok now
  pub few : visits_of (trace now.bytes) ≤ 1000000
  pub made : set_file first.assignments first.new ≡ Ok (whole again)

-- the fields that were set both times
abbrev pub both_set : SetTwice → List Field
both_set s = all_set s.first

-- Exif data in which a value was set in place twice, in the same entry
pub record ValueSetTwice : Type 0 where
  pub tag : Tag
  pub ifd_num : In
  pub value : Value
  pub old : List ℕ
  pub new : List ℕ
  pub again : List ℕ
  pub made : set_answer old tag ifd_num value ≡ Ok new
  pub made_again : set_answer new tag ifd_num value ≡ Ok again
  pub entry : KeepsEntry tag ifd_num old new

-- a file in whose Exif data a field was set in place twice, in the same entry and the same extents
pub record FieldSetTwice : Type 0 where
  pub field : Field
  pub file : List ℕ
  pub new : List ℕ
  pub again : List ℕ
  pub old : List ℕ
  pub kept : List ℕ
  pub short : length file < 2 ^ 64
  pub held : container_answer file ≡ Ok old
  pub still_held : container_answer new ≡ Ok kept
  pub made : field_set field file ≡ Ok new
  pub made_again : field_set field new ≡ Ok again
  pub entry : KeepsEntry field.tag field.ifd_num old kept
  pub ranges : extents again ≡ extents new

-- ---- files that get new Exif data

-- a file without Exif data, in which at least one assigned value was set, and the new file
pub record SetAnew : Type 0 where
  pub assignments : List Assignment
  pub field : Field
  pub others : List Field
  pub file : List ℕ
  pub new : List ℕ
  pub what : List ℕ
  pub short : length file < 2 ^ 64
  pub still_short : length new < 2 ^ 64
  pub none : container_answer file ≡ Err (not_found what)
  pub fields : assigned_fields file assignments ≡ Ok (field ∷ others, [])
  pub made : set_file assignments file ≡ Ok (whole new)

-- the fields that were set in it
abbrev pub all_new : SetAnew → List Field
all_new s = s.field ∷ s.others

-- Exif data that hold fields alone, big endian
abbrev pub data_of_new : List Field → List ℕ
data_of_new fields = image Big (pushed_all fields [])

-- the fields of such data, in the order in which they are written
abbrev pub written : List Field → List Field
written fields = flat (pushed_all fields [])

-- those of the new file
abbrev pub now_read : SetAnew → List Field
now_read s = written (all_new s)
