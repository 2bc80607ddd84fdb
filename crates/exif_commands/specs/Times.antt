-- What is counted of a file whose time is set.
use Rattle.std.specs.Prelude.{Bool, true, false, Result, Ok, Err}
use Rattle.exif_decisions.specs.declared.outcome.Outcome.{Outcome}
use Rattle.exif_decisions.specs.declared.outcome.Outcome.TheVariants.{Done, Refused, Unchanged}
use Rattle.exif_types.specs.Failures.{Failure}

-- by whether its time is known: a file without one is left as it is
abbrev pub outcome_touched : Result Bool Failure → Outcome
outcome_touched (Ok true) = Done
outcome_touched (Ok false) = Unchanged
outcome_touched (Err e) = Refused
