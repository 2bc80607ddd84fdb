-- Results of calls below, with their errors as refusals.
use Rattle.std.specs.Prelude.{Result, Ok, Err}
use Rattle.exif_types.specs.Failures.{Failure}
use Rattle.exif_edit_base.specs.declared.error.Error as edit
use Rattle.exif_change.specs.declared.refusal.Refusal.{Refusal}
use Rattle.exif_change.specs.declared.refusal.Refusal.TheVariants.{Editing, Reading}

-- what was edited, or the refusal that its error is
abbrev pub editing : {T : Type 0} → Result T edit.Error → Result T Refusal
editing (Ok x) = Ok x
editing (Err error) = Err (Editing error)

-- what was read, or the refusal that its error is
abbrev pub reading : {T : Type 0} → Result T Failure → Result T Refusal
reading (Ok x) = Ok x
reading (Err error) = Err (Reading error)
