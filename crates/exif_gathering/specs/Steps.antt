-- What is done with what a run over a catalogue gives next, and what is counted with it.
use Rattle.std.specs.Prelude.{Bool, false, not, Option, None, Some}
use Rattle.exif_decisions.specs.Tallies.{counted, skipped}
use Rattle.exif_decisions.specs.declared.counts.Counts.{Counts}
use Rattle.exif_decisions.specs.declared.found.Found.TheVariants.{NotRead}
use Rattle.exif_decisions.specs.declared.outcome.Outcome.{Outcome}
use Rattle.exif_decisions.specs.declared.outcome.Outcome.TheVariants.{Refused}
use Rattle.exif_inputs.specs.declared.pending.Next.{Next}
use Rattle.exif_inputs.specs.declared.pending.Next.TheVariants as next
use Rattle.exif_gathering.specs.declared.steps.NextStep.{NextStep}
use Rattle.exif_gathering.specs.declared.steps.NextStep.TheVariants.{Begin, Skip, RefuseInput, Fail}

-- A file that is named is a picture. So is one that was found in a folder and meets conditions,
-- since it was looked at for them; without conditions it may be none. Standard input has no name
-- that a row could have.
abbrev pub step_of : Next → Bool → NextStep
step_of (next.Named path) has_conditions = Begin path false
step_of (next.Found path) has_conditions = Begin path (not has_conditions)
step_of (next.Beside path why) has_conditions = Skip path why
step_of next.Input has_conditions = RefuseInput
step_of (next.Failed path cause) has_conditions = Fail path cause

-- whether a step may begin with a picture, and whether its file is not looked at before
abbrev pub unseen_in : NextStep → Option Bool
unseen_in (Begin path is_unseen) = Some is_unseen
unseen_in (Skip path why) = None
unseen_in RefuseInput = None
unseen_in (Fail path cause) = None

-- what is counted with a step
abbrev pub counted_step : NextStep → Counts → Counts
counted_step (Begin path is_unseen) counts = counts
counted_step (Skip path why) counts = skipped (NotRead why) counts
counted_step RefuseInput counts = counted Refused counts
counted_step (Fail path cause) counts = counted Refused counts

-- what is counted of the picture that was given last, if something became of it
abbrev pub counted_last : Option Outcome → Counts → Counts
counted_last None counts = counts
counted_last (Some outcome) counts = counted outcome counts
