-- Thumbnails that are written to files.
use Rattle.std.specs.Prelude.{Result, Ok, Err}
use Rattle.exif_change.specs.declared.refusal.Refusal.{Refusal}
use Rattle.exif_change.specs.declared.refusal.Refusal.TheVariants as refusal
use Rattle.exif_decisions.specs.declared.outcome.Outcome.{Outcome}
use Rattle.exif_decisions.specs.declared.outcome.Outcome.TheVariants.{Done, Refused}
use Rattle.exif_session.specs.declared.output.OutError.{OutError}
use Rattle.exif_types.specs.Failures.{Failure}
use Rattle.exif_types.specs.declared.error.Error.TheVariants as error

-- why a picture that can't be read has no thumbnail; out of memory is told apart
abbrev pub jpeg_refusal : Failure → Refusal
jpeg_refusal error.OutOfMemory = refusal.OutOfMemory
jpeg_refusal (error.PartialResult partial) = refusal.Reading (error.PartialResult partial)
jpeg_refusal (error.NotFound what) = refusal.Reading (error.NotFound what)
jpeg_refusal (error.InvalidFormat text) = refusal.Reading (error.InvalidFormat text)
jpeg_refusal (error.Io cause) = refusal.Reading (error.Io cause)
jpeg_refusal (error.BlankValue text) = refusal.Reading (error.BlankValue text)
jpeg_refusal (error.TooBig text) = refusal.Reading (error.TooBig text)
jpeg_refusal (error.NotSupported text) = refusal.Reading (error.NotSupported text)
jpeg_refusal (error.UnexpectedValue text) = refusal.Reading (error.UnexpectedValue text)

-- what is counted of a picture whose thumbnail was written, or was not
abbrev pub outcome_out : Result (Unit {0}) OutError → Outcome
outcome_out (Ok done) = Done
outcome_out (Err why) = Refused
