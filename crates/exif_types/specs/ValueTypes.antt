-- The type of a value and how many items it has (TIFF 6.0, section 2, "Types" and "Count").
use Rattle.std.specs.Prelude.{ℕ, length, Option, Some, None}
use Rattle.exif_text.specs.FieldTypes.{number_of}
use Rattle.exif_text.specs.declared.field_type.FieldType.{FieldType}
use Rattle.exif_text.specs.declared.field_type.FieldType.TheVariants as field_type
use Rattle.exif_types.specs.Texts.{ended_length}
use Rattle.exif_types.specs.declared.value.Value.{Value}
use Rattle.exif_types.specs.declared.value.Value.TheVariants.{Byte, Ascii, Short, Long, Rational, SByte, Undefined, SShort, SLong, SRational, Float, Double, Unknown}

-- the type of a value, if it is known
abbrev pub field_type_of : Value → Option FieldType
field_type_of (Byte xs) = Some field_type.Byte
field_type_of (Ascii xs) = Some field_type.Ascii
field_type_of (Short xs) = Some field_type.Short
field_type_of (Long xs) = Some field_type.Long
field_type_of (Rational xs) = Some field_type.Rational
field_type_of (SByte xs) = Some field_type.SByte
field_type_of (Undefined xs offset) = Some field_type.Undefined
field_type_of (SShort xs) = Some field_type.SShort
field_type_of (SLong xs) = Some field_type.SLong
field_type_of (SRational xs) = Some field_type.SRational
field_type_of (Float xs) = Some field_type.Float
field_type_of (Double xs) = Some field_type.Double
field_type_of (Unknown type count offset) = None

-- the number of a known type
abbrev pub known_number : Option FieldType → ℕ
known_number None = 0
known_number (Some type) = number_of type

-- the number of a value's type
abbrev pub type_number : Value → ℕ
type_number (Unknown type count offset) = type
type_number value = known_number (field_type_of value)

-- how many items a value has; those of texts are their bytes
abbrev pub count_of : Value → ℕ
count_of (Byte xs) = length xs
count_of (Ascii xs) = ended_length xs
count_of (Short xs) = length xs
count_of (Long xs) = length xs
count_of (Rational xs) = length xs
count_of (SByte xs) = length xs
count_of (Undefined xs offset) = length xs
count_of (SShort xs) = length xs
count_of (SLong xs) = length xs
count_of (SRational xs) = length xs
count_of (Float xs) = length xs
count_of (Double xs) = length xs
count_of (Unknown type count offset) = count
