-- Which files are processed, by what was read of their pictures.
use Rattle.std.specs.Prelude.{Bool, true, [], Result, Ok, Err}
use Rattle.exif_summary.specs.Choices.{takes_fields}
use Rattle.exif_summary.specs.declared.choice.Choice.{Choice}
use Rattle.exif_types.specs.Failures.{Failure}
use Rattle.exif_types.specs.declared.error.Error.TheVariants as error
use Rattle.exif_types.specs.Contents.{ExifContents}

-- a picture that meets the conditions; one without Exif data has no fields, and one that can't be
-- read is processed, which reports that
abbrev pub is_chosen : Choice → Result ExifContents Failure → Bool
is_chosen choice (Ok exif) = takes_fields choice exif.fields
is_chosen choice (Err (error.NotFound what)) = takes_fields choice []
is_chosen choice (Err (error.InvalidFormat text)) = true
is_chosen choice (Err (error.Io cause)) = true
is_chosen choice (Err (error.BlankValue text)) = true
is_chosen choice (Err (error.TooBig text)) = true
is_chosen choice (Err (error.NotSupported text)) = true
is_chosen choice (Err (error.UnexpectedValue text)) = true
is_chosen choice (Err (error.PartialResult partial)) = true
is_chosen choice (Err error.OutOfMemory) = true
