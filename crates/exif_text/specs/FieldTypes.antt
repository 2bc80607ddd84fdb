-- The types of values (TIFF 6.0, section 2, "Types").
use Rattle.std.specs.Prelude.{ℕ, ◌==◌, if◌then◌else◌, Option, Some, None}
use Rattle.exif_text.specs.declared.field_type.FieldType.{FieldType}
use Rattle.exif_text.specs.declared.field_type.FieldType.TheVariants as field_type

-- the type that a number names
abbrev pub type_of : ℕ → Option FieldType
type_of n =
    if n == 1 then Some field_type.Byte else
    (if n == 2 then Some field_type.Ascii else
    (if n == 3 then Some field_type.Short else
    (if n == 4 then Some field_type.Long else
    (if n == 5 then Some field_type.Rational else
    (if n == 6 then Some field_type.SByte else
    (if n == 7 then Some field_type.Undefined else
    (if n == 8 then Some field_type.SShort else
    (if n == 9 then Some field_type.SLong else
    (if n == 10 then Some field_type.SRational else
    (if n == 11 then Some field_type.Float else
    (if n == 12 then Some field_type.Double else None)))))))))))

-- the number of a type
abbrev pub number_of : FieldType → ℕ
number_of field_type.Byte = 1
number_of field_type.Ascii = 2
number_of field_type.Short = 3
number_of field_type.Long = 4
number_of field_type.Rational = 5
number_of field_type.SByte = 6
number_of field_type.Undefined = 7
number_of field_type.SShort = 8
number_of field_type.SLong = 9
number_of field_type.SRational = 10
number_of field_type.Float = 11
number_of field_type.Double = 12

-- the bytes of one item
abbrev pub unit_length : FieldType → ℕ
unit_length field_type.Byte = 1
unit_length field_type.Ascii = 1
unit_length field_type.Short = 2
unit_length field_type.Long = 4
unit_length field_type.Rational = 8
unit_length field_type.SByte = 1
unit_length field_type.Undefined = 1
unit_length field_type.SShort = 2
unit_length field_type.SLong = 4
unit_length field_type.SRational = 8
unit_length field_type.Float = 4
unit_length field_type.Double = 8

-- the bytes of one item of the type with a number, 0 for a number that names none
abbrev pub known_length : Option FieldType → ℕ
known_length None = 0
known_length (Some t) = unit_length t

-- how many bytes an item of the type with a number takes
abbrev pub unit : ℕ → ℕ
unit type = known_length (type_of type)
