-- What the faults of dates are called.
use Rattle.std.specs.Prelude.{ℕ, List, codes}
use Rattle.exif_text.specs.declared.date_fault.DateFault.{DateFault}
use Rattle.exif_text.specs.declared.date_fault.DateFault.TheVariants.{BlankDate, DateTooShort, InvalidDateDelimiter, NotANumber, BlankOffset, OffsetTooShort, InvalidOffsetDelimiter, InvalidOffsetSign}

-- the text of a fault
abbrev pub message_of : DateFault → List ℕ
message_of BlankDate = codes "DateTime is blank"
message_of DateTooShort = codes "DateTime too short"
message_of InvalidDateDelimiter = codes "Invalid DateTime delimiter"
message_of NotANumber = codes "Not a number"
message_of BlankOffset = codes "OffsetTime is blank"
message_of OffsetTooShort = codes "OffsetTime too short"
message_of InvalidOffsetDelimiter = codes "Invalid OffsetTime delimiter"
message_of InvalidOffsetSign = codes "Invalid OffsetTime sign"
