-- Errors as contracts see them.
use Rattle.std.specs.Prelude.{ℕ, List, [], Option, Some, None, codes, length, ◌++◌, ⊤}
use Rattle.std.specs.Borrow.{Bor}
use Rattle.std.specs.Fmt.{decimal}
use Rattle.exif_types.specs.declared.error.Error.{Error}
use Rattle.exif_types.specs.declared.error.Error.TheVariants as error

-- an error with the texts that the public calls give
abbrev pub Failure : Type 0
Failure = Error (Bor (List ℕ))

-- the text of an invalid format
abbrev pub told_text : {Text : Type 0} → Error Text → Option Text
told_text (error.InvalidFormat text) = Some text
told_text _ = None

-- an error is an invalid format
abbrev pub IsInvalidFormat : {Text : Type 0} → Error Text → Type 0
IsInvalidFormat (error.InvalidFormat text) = ⊤
IsInvalidFormat _ = ⊥

-- the bytes of a text, if there is one
abbrev pub bytes_of : Option (Bor (List ℕ)) → List ℕ
bytes_of (Some text) = text.now
bytes_of None = []

-- how an error is shown; the text of a device's own error is not known
abbrev pub error_text : Failure → Option (List ℕ)
error_text (error.InvalidFormat text) = Some text.now
error_text (error.NotFound what) = Some (codes "No Exif data found in " ++ what.now)
error_text (error.BlankValue text) = Some text.now
error_text (error.TooBig text) = Some text.now
error_text (error.NotSupported text) = Some text.now
error_text (error.UnexpectedValue text) = Some text.now
error_text (error.PartialResult partial) =
    Some (codes "Partial result with " ++ (decimal (length partial.exif.fields)
    ++ (codes " fields and " ++ (decimal (length partial.faults) ++ codes " errors"))))
error_text error.OutOfMemory = Some (codes "Out of memory")
error_text (error.Io cause) = None
