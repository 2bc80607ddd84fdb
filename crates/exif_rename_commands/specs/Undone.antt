-- What becomes of files that get their old names back.
use Rattle.std.specs.Prelude.{◌≡◌, ◌⊎◌, ℕ, List, [], ◌∷◌, codes, filter, length}
use Rattle.std.specs.Borrow.{Bor}
use Rattle.exif_decisions.specs.declared.outcome.Outcome.{Outcome}
use Rattle.exif_decisions.specs.declared.outcome.Outcome.TheVariants.{Done, Refused}
use Rattle.exif_files.specs.declared.outcome.Status.TheVariants as status
use Rattle.exif_inputs.specs.Pending.{with_counts}
use Rattle.exif_inputs.specs.declared.pending.Pending.{Pending}
use Rattle.exif_rename.specs.Lines.{IsFirstWrong, is_filled, lines_in}
use Rattle.exif_rename_commands.specs.Counting.{beside_as, counted_all}
use Rattle.exif_session.specs.Counting.{with_beside}
use Rattle.exif_rename_commands.specs.Moving.{IsSettled}

-- the first file that is named has the lines; none, standard input
abbrev pub source_of : List (Bor (List ℕ)) → List ℕ
source_of [] = codes "-"
source_of (path ∷ paths) = path.now

-- a dry run shows what would be done, or why it would not be
abbrev pub IsDryOutcome : Outcome → Type 0
IsDryOutcome outcome = (outcome ≡ Done) ⊎ (outcome ≡ Refused)

-- Each of so many steps is counted by its outcome, and where the disk may lack a name, that beside
-- them. All else stays.
pub record AreCounted (steps : ℕ) (old new : Pending) : Type 0 where
  pub outcomes : List Outcome
  pub each : length outcomes ≡ steps
  pub settled : IsSettled old.counts.beside new.counts.beside
  pub counted : new
      ≡ beside_as new.counts.beside (with_counts (counted_all outcomes old.counts) old)

-- what is counted where a line is none of a run, or else the steps of all lines
abbrev pub IsUndone : List ℕ → Pending → Pending → Type 0
IsUndone text old new =
    ((number : ℕ) × IsFirstWrong (lines_in text) number × (new ≡ with_beside status.Refused old))
    ⊎ AreCounted (length (filter is_filled (lines_in text))) old new
