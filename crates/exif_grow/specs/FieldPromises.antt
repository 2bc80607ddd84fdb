-- What is promised of data in which several fields are set.
use Rattle.std.specs.Prelude.{◌≡◌, ℕ, Bool, true, not, MatchBool, List, [], ◌∷◌, All}
use Rattle.std.specs.List.{filter, list_any}
use Rattle.exif_types.specs.Lookup.{is_named}
use Rattle.exif_types.specs.declared.value.Value.{Value}
use Rattle.exif_types.specs.declared.value.Value.TheVariants.{Undefined, Unknown}
use Rattle.exif_types.specs.declared.field.Field.{Field}
use Rattle.exif_tiff.specs.Trace.{trace, fields_of, faults_of}
use Rattle.exif_edit.specs.Promises.{ReadAs}
use Rattle.exif_edit_base.specs.Rereading.{without_entry_offsets}

-- a value without the offset where it was read
abbrev pub bare : Value → Value
bare (Undefined xs offset) = Undefined xs 0
bare (Unknown type count offset) = Unknown type count 0
bare value = value

-- whether a field has the name of another one
abbrev pub same_name : Field → Field → Bool
same_name g f = is_named g.tag g.ifd_num f

-- whether a field has the name of one of those that are set
abbrev pub is_set : List Field → Field → Bool
is_set sets f = list_any (λ g. same_name g f) sets

-- the fields of other names
abbrev pub unset : List Field → List Field → List Field
unset sets fields = filter (λ f. not (is_set sets f)) fields

-- a field whose name is set has the last value that is set for it
abbrev pub HasLastValue : List Field → Field → Type 0
HasLastValue [] f = Unit {0}
HasLastValue (g ∷ gs) f =
    MatchBool (is_set gs f) (HasLastValue gs f) (same_name g f ≡ true → bare f.value ≡ bare g.value)

-- a field of this name is read
abbrev pub IsThere : List Field → Field → Type 0
IsThere fields g = list_any (same_name g) fields ≡ true

-- each field of a name that is set has its value, and there is one; all other fields and the faults
-- are as they were, but for the offsets of values that are in their entries
pub record AreSet (sets : List Field) (old new : List ℕ) : Type 0 where
  pub reads : ReadAs old (fields_of (trace old)) (faults_of (trace old))
      → ReadAs new (fields_of (trace new)) (faults_of (trace old))
  pub values : All (HasLastValue sets) (fields_of (trace new))
  pub there : All (IsThere (fields_of (trace new))) sets
  pub others : without_entry_offsets (unset sets (fields_of (trace new)))
      ≡ without_entry_offsets (unset sets (fields_of (trace old)))
