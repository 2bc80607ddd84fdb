-- The messages of the causes for which nothing is written, and the errors that they are answered
-- as.
use Rattle.std.specs.Prelude.{ℕ, List, codes}
use Rattle.exif_types.specs.Refusals.{Refusal, invalid_format, too_big, not_supported}
use Rattle.exif_layout.specs.declared.write_fault.WriteFault.{WriteFault}
use Rattle.exif_layout.specs.declared.write_fault.WriteFault.TheVariants.{NoDirectory, EmptyDirectory, TooManyFields, UnknownType, OffsetTooLarge}

-- the message of a cause
abbrev pub write_text_of : WriteFault → List ℕ
write_text_of NoDirectory = codes "At least one IFD must exist"
write_text_of EmptyDirectory = codes "IFD must not be empty"
write_text_of TooManyFields = codes "Too many fields in an IFD"
write_text_of UnknownType = codes "Cannot write unknown field types"
write_text_of OffsetTooLarge = codes "Offset too large"

-- the refusal that a cause is answered as: a kind of error, with the cause's message
abbrev pub write_refusal : WriteFault → Refusal
write_refusal NoDirectory = invalid_format (write_text_of NoDirectory)
write_refusal EmptyDirectory = invalid_format (write_text_of EmptyDirectory)
write_refusal TooManyFields = too_big (write_text_of TooManyFields)
write_refusal UnknownType = not_supported (write_text_of UnknownType)
write_refusal OffsetTooLarge = too_big (write_text_of OffsetTooLarge)
