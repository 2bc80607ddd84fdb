-- What was read of a picture.
use Rattle.std.specs.Prelude.{◌≡◌, ◌⊎◌, ℕ, List, true, Option, Some, None, Result, Ok, Err}
use Rattle.exif_formats.specs.Pictures.{ReadsPicture}
use Rattle.exif_types.specs.Refusals.{IsInterrupted}
use Rattle.exif_types.specs.Failures.{Failure}
use Rattle.exif_types.specs.declared.error.Error.TheVariants as error
use Rattle.exif_types.specs.Contents.{ExifContents}

-- one without Exif data was read, too: it has none
abbrev pub exif_found : Result ExifContents Failure → Result (Option ExifContents) Failure
exif_found (Ok exif) = Ok (Some exif)
exif_found (Err (error.NotFound what)) = Ok None
exif_found (Err (error.InvalidFormat text)) = Err (error.InvalidFormat text)
exif_found (Err (error.Io cause)) = Err (error.Io cause)
exif_found (Err (error.BlankValue text)) = Err (error.BlankValue text)
exif_found (Err (error.TooBig text)) = Err (error.TooBig text)
exif_found (Err (error.NotSupported text)) = Err (error.NotSupported text)
exif_found (Err (error.UnexpectedValue text)) = Err (error.UnexpectedValue text)
exif_found (Err (error.PartialResult partial)) = Err (error.PartialResult partial)
exif_found (Err error.OutOfMemory) = Err error.OutOfMemory

-- the Exif data of a picture of which this was read: those of a part are some
abbrev pub exif_read : Result ExifContents Failure → Result ExifContents Failure
exif_read (Ok exif) = Ok exif
exif_read (Err (error.PartialResult partial)) = Ok partial.exif
exif_read (Err (error.NotFound what)) = Err (error.NotFound what)
exif_read (Err (error.InvalidFormat text)) = Err (error.InvalidFormat text)
exif_read (Err (error.Io cause)) = Err (error.Io cause)
exif_read (Err (error.BlankValue text)) = Err (error.BlankValue text)
exif_read (Err (error.TooBig text)) = Err (error.TooBig text)
exif_read (Err (error.NotSupported text)) = Err (error.NotSupported text)
exif_read (Err (error.UnexpectedValue text)) = Err (error.UnexpectedValue text)
exif_read (Err error.OutOfMemory) = Err error.OutOfMemory

-- what is read of bytes, where faults are skipped, of a million entries at most
abbrev pub IsReadOf : List ℕ → Result ExifContents Failure → Type 0
IsReadOf bytes read = ReadsPicture true (Some 1000000) bytes read

-- the Exif data of the picture that bytes are, or why there are none; memory or a device may fail
abbrev pub IsExifIn : List ℕ → Result ExifContents Failure → Type 0
IsExifIn bytes result =
    ((read : Result ExifContents Failure) × IsReadOf bytes read × (result ≡ exif_read read))
    ⊎ ((why : Failure) × IsInterrupted why × (result ≡ Err why))
