-- Values set in a file in place.
use Rattle.std.specs.Prelude.{ℕ, Bool, true, false, List, [], ◌∷◌, ◌++◌, Option, Some, None, Result, Ok, Err, if◌then◌else◌}
use Rattle.exif_types.specs.Refusals.{not_found}
use Rattle.exif_types.specs.declared.field.Field.{Field}
use Rattle.exif_edit_base.specs.Causes.{Cause, cause_of, no_data, no_field, shared, too_long, ◌>>=◌}
use Rattle.exif_edit_base.specs.declared.error.Error.{Error}
use Rattle.exif_edit.specs.declared.edits.Edit.{Edit}
use Rattle.exif_edit.specs.declared.edits.Edit.TheVariants.{Set, EraseGps, EraseField, EraseAll}
use Rattle.exif_edit.specs.InFiles.{edited_file}
use Rattle.exif_change.specs.Reading.{entry_limit}
use Rattle.exif_setting.specs.declared.in_place.Fitted.{Fitted}
use Rattle.exif_setting.specs.declared.in_place.Sets.{Sets}

-- the edit that sets a field
abbrev pub setting : Field → Edit
setting field = Set field.tag field.ifd_num field.value

-- the field that an edit sets
abbrev pub set_by : Edit → Option Field
set_by (Set tag ifd_num value) = Some (record { tag = tag; ifd_num = ifd_num; value = value })
set_by EraseGps = None
set_by (EraseField tag ifd_num) = None
set_by EraseAll = None

-- a field set in a file in place
abbrev pub field_set : Field → List ℕ → Result (List ℕ) Cause
field_set field file = edited_file entry_limit (setting field) file

-- what there is, as a list
abbrev pub listed : Option Field → List Field
listed (Some field) = field ∷ []
listed None = []

-- whether longer Exif data would do what is refused in place
abbrev pub needs_space : Cause → Bool
needs_space no_field = true
needs_space too_long = true
needs_space shared = true
needs_space (no_data (not_found what)) = true
needs_space _ = false

-- whether the cause of an error is such; out of memory is none
abbrev pub error_needs_space : Error → Bool
error_needs_space error = elim (cause_of error) [ Some cause ↦ needs_space cause | None ↦ false ]

-- what becomes of a file and of fields that are left over with one field more: it is set in place,
-- or left over too, if it needs space
abbrev pub fit_by : Field → Result (List ℕ) Cause → List ℕ × List Field
    → Result (List ℕ × List Field) Cause
fit_by field (Ok new) (file, left) = Ok (new, left)
fit_by field (Err cause) (file, left) =
    if needs_space cause then Ok (file, left ++ field ∷ []) else Err cause

-- the same by the edit of the file
abbrev pub fit_one : Field → List ℕ × List Field → Result (List ℕ × List Field) Cause
fit_one field (file, left) = fit_by field (field_set field file) (file, left)

-- the same with fields one after the other
abbrev pub fitting_set : List Field → List ℕ × List Field
    → Result (List ℕ × List Field) Cause
fitting_set [] made = Ok made
fitting_set (field ∷ fields) made = fit_one field made >>= fitting_set fields

-- the fields that are to be set: in place, and in the data
abbrev pub sets_of : Sets → List Field × List Field
sets_of sets = (sets.single.items, sets.repeated.items)

-- what the program answers
abbrev pub fitted_of : Fitted → List ℕ × List Field
fitted_of fitted = (fitted.file.items, fitted.left.items)
