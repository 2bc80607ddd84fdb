-- What is read of data in memory.
use Rattle.std.proofs.Common.{ℕ, true, List, Result, Ok, Err}
use Rattle.exif_types.specs.Contents.{ExifContents}
use Rattle.exif_types.specs.Failures.{Failure}
use Rattle.exif_types.specs.declared.error.Error.TheVariants as error
use Rattle.exif_tiff.specs.Answers.{raw_answer}
use Rattle.exif_tiff.specs.Readings.{ReadsAs}
use Rattle.exif_reader.specs.Files.{ReadsContainer}
use Rattle.exif_change.specs.Reading.{entry_limit}

-- what is read of data in memory, as of a container that holds them
pub as_held : (bytes : List ℕ) (answer : Result ExifContents Failure)
    → ReadsAs (raw_answer true entry_limit bytes) bytes answer → ReadsContainer (raw_answer true entry_limit) (Ok bytes) answer
as_held bytes (Ok exif) h = h
as_held bytes (Err (error.PartialResult partial)) h = h
as_held bytes (Err (error.InvalidFormat text)) h = h
as_held bytes (Err (error.NotFound text)) h = h
as_held bytes (Err (error.BlankValue text)) h = h
as_held bytes (Err (error.TooBig text)) h = h
as_held bytes (Err (error.NotSupported text)) h = h
as_held bytes (Err (error.UnexpectedValue text)) h = h
as_held bytes (Err (error.Io cause)) h = tt
as_held bytes (Err error.OutOfMemory) h = tt
