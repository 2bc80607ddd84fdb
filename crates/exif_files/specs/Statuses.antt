-- What becomes of a run.
use Rattle.std.specs.Prelude.{ℕ, ◌==◌, List, [], ◌∷◌, Option, None, Some, if◌then◌else◌}
use Rattle.exif_files.specs.declared.outcome.Status.{Status}
use Rattle.exif_files.specs.declared.outcome.Status.TheVariants.{Success, Incomplete, Refused}

-- the status that a program ends with
abbrev pub code : Status → ℕ
code Success = 0
code Incomplete = 3
code Refused = 1

-- the status of a file that was changed, of which so many things were left undone
abbrev pub status_for : ℕ → Status
status_for undone = if undone == 0 then Success else Incomplete

abbrev pub worse : Status → Status → Status
worse Success other = other
worse Incomplete Refused = Refused
worse Incomplete Success = Incomplete
worse Incomplete Incomplete = Incomplete
worse Refused other = Refused

-- the worst of a run; a file that was named before has none of its own
abbrev pub worst : List (Option Status) → Status
worst [] = Success
worst (None ∷ rest) = worst rest
worst (Some status ∷ rest) = worse status (worst rest)
