-- What became of a file, and the status of the program after it.
use Rattle.std.specs.Prelude.{ℕ, ◌==◌, Bool, true, false}
use Rattle.exif_files.specs.declared.outcome.Status.{Status}
use Rattle.exif_files.specs.declared.outcome.Status.TheVariants.{Success, Incomplete, Refused}
use Rattle.exif_decisions.specs.declared.outcome.Outcome.{Outcome}
use Rattle.exif_decisions.specs.declared.outcome.Outcome.TheVariants as outcome

-- 0 only where all was done, or had been
abbrev pub status_for : Outcome → Status
status_for outcome.Done = Success
status_for outcome.Current = Success
status_for outcome.Partial = Incomplete
status_for outcome.Unchanged = Incomplete
status_for outcome.Refused = Refused

-- the outcome of a file with which something was done, by whether that was all
abbrev pub outcome_for : Bool → Outcome
outcome_for true = outcome.Done
outcome_for false = outcome.Partial

-- the outcome of a file that was read, by how many faults were skipped
abbrev pub outcome_with : ℕ → Outcome
outcome_with count = outcome_for (count == 0)
