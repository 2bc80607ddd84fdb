-- Why files get no other name, in words.
use Rattle.std.specs.Prelude.{ℕ, List, ◌++◌, Option, Some, None, codes}
use Rattle.std.specs.Fmt.{decimal}
use Rattle.exif_decisions.specs.Escaping.{escaped_text}
use Rattle.exif_files.specs.declared.failure.WriteError.{WriteError}
use Rattle.exif_files.specs.declared.failure.WriteError.TheVariants as error
use Rattle.exif_rename.specs.declared.plan.PlanError.{PlanError}
use Rattle.exif_rename.specs.declared.plan.PlanError.TheVariants as plan
use Rattle.exif_rename_commands.specs.declared.words.NotBack.{NotBack}
use Rattle.exif_rename_commands.specs.declared.words.NotBack.TheVariants.{Copy, Gone, Taken}
use Rattle.exif_rename_commands.specs.declared.words.NotMoved.{NotMoved}
use Rattle.exif_rename_commands.specs.declared.words.NotPlanned.{NotPlanned}

-- why a file is not moved or copied; the text of the system's own error is not known
abbrev pub not_moved_by : WriteError → Option (List ℕ)
not_moved_by error.Taken = Some (codes "its new name is taken")
not_moved_by (error.Io cause) = None
not_moved_by error.OtherDevice = Some (codes "its new name is on another device")
not_moved_by error.Crowded = Some (codes "too many temporary files named .mexaldor-N; delete them")
not_moved_by error.OutOfMemory = Some (codes "out of memory")

abbrev pub not_moved_text : NotMoved → Option (List ℕ)
not_moved_text why = not_moved_by why.0

-- why no file is renamed
abbrev pub not_planned_by : PlanError → Option (List ℕ)
not_planned_by (plan.Io cause) = None
not_planned_by (plan.Crowded index) =
    Some (codes "too many files have its new name; nothing is renamed")
not_planned_by plan.OutOfMemory = Some (codes "out of memory")

abbrev pub not_planned_text : NotPlanned → Option (List ℕ)
not_planned_text why = not_planned_by why.0

-- why a rename is not taken back
abbrev pub not_back_text : NotBack → List ℕ → List ℕ
not_back_text Copy old = codes "a copy, which is not taken back; remove it by rm"
not_back_text Gone old = codes "it is not there any more"
not_back_text Taken old = codes "its old name is taken: " ++ escaped_text old

-- why no rename is taken back, where a line is none of a run
abbrev pub wrong_line_text : ℕ → List ℕ
wrong_line_text number =
    codes "line "
    ++ (decimal number ++ codes " is no line of rename, as 'OLD -> NEW'; nothing is done")
