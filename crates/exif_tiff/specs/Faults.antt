-- The messages of faults, and the errors that they are answered as.
use Rattle.std.specs.Prelude.{ℕ, List, codes}
use Rattle.exif_types.specs.Refusals.{Refusal, invalid_format, too_big}
use Rattle.exif_tiff.specs.declared.fault.Fault.{Fault}
use Rattle.exif_tiff.specs.declared.fault.Fault.TheVariants.{DataTooLarge, TruncatedHeader, InvalidByteOrder, InvalidFortyTwo, TruncatedCount, TruncatedDirectory, TruncatedNextOffset, TruncatedValue, InvalidPointer, UnexpectedNext, TooManyDirectories, TooManyEntries}

-- the message of a fault
abbrev pub text_of : Fault → List ℕ
text_of DataTooLarge = codes "TIFF data too large"
text_of TruncatedHeader = codes "Truncated TIFF header"
text_of InvalidByteOrder = codes "Invalid TIFF byte order"
text_of InvalidFortyTwo = codes "Invalid forty two"
text_of TruncatedCount = codes "Truncated IFD count"
text_of TruncatedDirectory = codes "Truncated IFD"
text_of TruncatedNextOffset = codes "Truncated next IFD offset"
text_of TruncatedValue = codes "Truncated field value"
text_of InvalidPointer = codes "Invalid pointer"
text_of UnexpectedNext = codes "Unexpected next IFD"
text_of TooManyDirectories = codes "Limit the IFD count to 8"
text_of TooManyEntries = codes "Limit the IFD entry count"

-- too big where the data are too large, else a broken format
abbrev pub refusal : Fault → Refusal
refusal DataTooLarge = too_big (text_of DataTooLarge)
refusal fault = invalid_format (text_of fault)
