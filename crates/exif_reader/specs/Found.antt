-- What was read, apart from the faults that were skipped.
use Rattle.std.specs.Prelude.{ℕ, length, Option, None, Some, Result, Ok, Err, Vec}
use Rattle.std.specs.Global.{Global}
use Rattle.exif_types.specs.Contents.{ExifContents}
use Rattle.exif_types.specs.Failures.{Failure}
use Rattle.exif_types.specs.declared.error.Error.TheVariants as error

-- what was read, and how many faults were skipped: some only in a partial result
abbrev pub counted_in : Result ExifContents Failure → Result (ExifContents × ℕ) Failure
counted_in (Ok exif) = Ok (exif, 0)
counted_in (Err (error.PartialResult partial)) = Ok (partial.exif, length partial.faults)
counted_in (Err (error.NotFound what)) = Err (error.NotFound what)
counted_in (Err (error.InvalidFormat text)) = Err (error.InvalidFormat text)
counted_in (Err (error.Io cause)) = Err (error.Io cause)
counted_in (Err (error.BlankValue text)) = Err (error.BlankValue text)
counted_in (Err (error.TooBig text)) = Err (error.TooBig text)
counted_in (Err (error.NotSupported text)) = Err (error.NotSupported text)
counted_in (Err (error.UnexpectedValue text)) = Err (error.UnexpectedValue text)
counted_in (Err error.OutOfMemory) = Err error.OutOfMemory

-- a list of faults by how many they are
abbrev pub with_count : Result (ExifContents × Vec Failure Global) Failure
    → Result (ExifContents × ℕ) Failure
with_count (Ok (exif, faults)) = Ok (exif, length faults.items)
with_count (Err e) = Err e

-- the Exif data of a picture, if it has some, and how many faults were skipped in them; or why it can't be read
abbrev pub contents_of : Result ExifContents Failure → Result (Option ExifContents × ℕ) Failure
contents_of (Ok exif) = Ok (Some exif, 0)
contents_of (Err (error.PartialResult partial)) = Ok (Some partial.exif, length partial.faults)
contents_of (Err (error.NotFound what)) = Ok (None, 0)
contents_of (Err (error.InvalidFormat text)) = Err (error.InvalidFormat text)
contents_of (Err (error.Io cause)) = Err (error.Io cause)
contents_of (Err (error.BlankValue text)) = Err (error.BlankValue text)
contents_of (Err (error.TooBig text)) = Err (error.TooBig text)
contents_of (Err (error.NotSupported text)) = Err (error.NotSupported text)
contents_of (Err (error.UnexpectedValue text)) = Err (error.UnexpectedValue text)
contents_of (Err error.OutOfMemory) = Err error.OutOfMemory
