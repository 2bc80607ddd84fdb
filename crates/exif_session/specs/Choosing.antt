-- Which of the files that wait are processed.
use Rattle.std.specs.Prelude.{◌≡◌, ◌⊎◌, ℕ, Bool, List, Option, Some, None}
use Rattle.exif_decisions.specs.Found.{step_for}
use Rattle.exif_decisions.specs.Tallies.{skipped}
use Rattle.exif_decisions.specs.declared.counts.Counts.{Counts}
use Rattle.exif_decisions.specs.declared.found.Found.{Found}
use Rattle.exif_decisions.specs.declared.found.FoundStep.{FoundStep}
use Rattle.exif_decisions.specs.declared.found.FoundStep.TheVariants as step
use Rattle.exif_decisions.specs.declared.found.NotRead.{NotRead}
use Rattle.exif_inputs.specs.Pending.{NextFile, the_input, the_named, the_found, the_beside, the_failed}

-- this file, or none where its picture does not meet the conditions
abbrev pub IsThisIf : NextFile → Option NextFile → Type 0
IsThisIf file kept = (kept ≡ Some file) ⊎ (kept ≡ None)

-- the same of a file that was found in a folder, or what it is beside pictures
abbrev pub IsFoundIf : List ℕ → Option NextFile → Type 0
IsFoundIf path kept =
    IsThisIf (the_found path) kept ⊎ ((why : NotRead) × (kept ≡ Some (the_beside path why)))

-- standard input, names that can't be followed and files beside pictures are not chosen from
abbrev pub IsChosen : NextFile → Option NextFile → Type 0
IsChosen the_input kept = kept ≡ Some the_input
IsChosen (the_named path) kept = IsThisIf (the_named path) kept
IsChosen (the_found path) kept = IsFoundIf path kept
IsChosen (the_beside path why) kept = kept ≡ Some (the_beside path why)
IsChosen (the_failed path) kept = kept ≡ Some (the_failed path)

-- what comes of a file that was found, by what comes next of it
abbrev pub IsStepped : FoundStep → Found → List ℕ → Counts → Counts → Option NextFile → Type 0
IsStepped step.Choose found path old new kept = IsThisIf (the_found path) kept × (new ≡ old)
IsStepped (step.Beside why) found path old new kept =
    (kept ≡ Some (the_beside path why)) × (new ≡ old)
IsStepped step.Skip found path old new kept = (kept ≡ None) × (new ≡ skipped found old)

-- the same by what it is found to be
abbrev pub IsChosenInFolder : Bool → List ℕ → Counts → Counts → Option NextFile → Type 0
IsChosenInFolder takes_companions path old new kept =
    (found : Found) × IsStepped (step_for found takes_companions) found path old new kept
