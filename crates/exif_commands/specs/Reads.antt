-- What was read of a file, and what is written and counted of it.
use Rattle.std.specs.Prelude.{ℕ, List, Option, Result, Ok, Err, Vec}
use Rattle.std.specs.Global.{Global}
use Rattle.exif_decisions.specs.Outcomes.{outcome_with}
use Rattle.exif_decisions.specs.declared.outcome.Outcome.{Outcome}
use Rattle.exif_decisions.specs.declared.outcome.Outcome.TheVariants.{Done, Partial, Refused}
use Rattle.exif_types.specs.Contents.{ExifContents}
use Rattle.exif_types.specs.Failures.{Failure}
use Rattle.exif_types.specs.declared.error.Error.TheVariants as error
use Rattle.exif_formats.specs.declared.picture.Picture.{Picture}
use Rattle.exif_reader.specs.Found.{contents_of}

-- one without Exif data is read, too; one with faults is read in part
abbrev pub outcome_read : {T : Type 0} → Result T Failure → Outcome
outcome_read (Ok x) = Done
outcome_read (Err (error.NotFound what)) = Done
outcome_read (Err (error.PartialResult partial)) = Partial
outcome_read (Err (error.InvalidFormat text)) = Refused
outcome_read (Err (error.Io cause)) = Refused
outcome_read (Err (error.BlankValue text)) = Refused
outcome_read (Err (error.TooBig text)) = Refused
outcome_read (Err (error.NotSupported text)) = Refused
outcome_read (Err (error.UnexpectedValue text)) = Refused
outcome_read (Err error.OutOfMemory) = Refused

-- what a reader answered, or why the file could not be read
abbrev pub answer_read : Result Picture Failure → Result ExifContents Failure
answer_read (Ok picture) = picture.answer
answer_read (Err e) = Err e

-- what was read of a picture, and how many faults it has
abbrev pub read_of : Result Picture Failure → Result (Option ExifContents × ℕ) Failure
read_of read = contents_of (answer_read read)

-- what is written of a file, and how many faults it has, as plain data
abbrev pub made_as : Result (Vec ℕ Global × ℕ) Failure → Result (List ℕ × ℕ) Failure
made_as (Ok (text, faults)) = Ok (text.items, faults)
made_as (Err e) = Err e

-- what is counted of a file of which something was written: the faults that were skipped make it
-- incomplete
abbrev pub outcome_written : Result (Vec ℕ Global × ℕ) Failure → Outcome
outcome_written (Ok (text, faults)) = outcome_with faults
outcome_written (Err e) = Refused

-- the same of a report
abbrev pub outcome_reported : Result ℕ Failure → Outcome
outcome_reported (Ok faults) = outcome_with faults
outcome_reported (Err e) = Refused

-- and of what was read of a picture
abbrev pub outcome_summed : Result (Option ExifContents × ℕ) Failure → Outcome
outcome_summed (Ok (exif, faults)) = outcome_with faults
outcome_summed (Err e) = Refused
