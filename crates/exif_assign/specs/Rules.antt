-- What the standard has for each tag that a text can set: its type, and its values (Exif 2.32,
-- sections 4.6.4 to 4.6.8; TIFF 6.0, section 8).
use Rattle.std.specs.Prelude.{ℕ, List, [], ◌∷◌, find, Option, Some, None}
use Rattle.std.specs.Option.{option_map}
use Rattle.exif_table.specs.declared.context.Context.{Context}
use Rattle.exif_table.specs.declared.context.Context.TheVariants as context
use Rattle.exif_text.specs.declared.field_type.FieldType.{FieldType}
use Rattle.exif_text.specs.declared.field_type.FieldType.TheVariants as field_type
use Rattle.exif_types.specs.Lookup.{tag_eq}
use Rattle.exif_types.specs.declared.tag.Tag.{Tag}
use Rattle.exif_assign.specs.Assigning.{or_else}
use Rattle.exif_assign.specs.declared.rules.Form.{Form}
use Rattle.exif_assign.specs.declared.rules.Form.TheVariants.{Any, Nothing, Count, Date, Day, Offset, Digits, Comment, Within, Listed, Fraction, Below, Degrees, Clock, Letter, Unit}
use Rattle.exif_assign.specs.declared.rules.Listing.TheVariants.{MeteringModes, LightSources, FlashStates, ColorSpaces, SensingMethods}
use Rattle.exif_assign.specs.declared.rules.Rule.{Rule}
use Rattle.exif_assign.specs.declared.rules.Spelling.{Spelling}
use Rattle.exif_assign.specs.declared.rules.Spelling.TheVariants as spelling

-- a rule of a tag with this number
abbrev pub rule : Context → ℕ → FieldType → Form → Rule
rule context number field_type form =
    record { 0 = record { 0 = context; 1 = number }; 1 = field_type; 2 = form }

-- those of the tags that a file can get
abbrev pub rules : List Rule
rules =
    rule context.Tiff 0x010e field_type.Ascii Any
    ∷ rule context.Tiff 0x010f field_type.Ascii Any
    ∷ rule context.Tiff 0x0110 field_type.Ascii Any
    ∷ rule context.Tiff 0x0131 field_type.Ascii Any
    ∷ rule context.Tiff 0x013b field_type.Ascii Any
    ∷ rule context.Tiff 0x8298 field_type.Ascii Any
    ∷ rule context.Tiff 0x0132 field_type.Ascii Date
    ∷ rule context.Tiff 0x0112 field_type.Short (Within 1 8)
    ∷ rule context.Tiff 0x011a field_type.Rational Fraction
    ∷ rule context.Tiff 0x011b field_type.Rational Fraction
    ∷ rule context.Tiff 0x0128 field_type.Short (Within 2 3)
    ∷ rule context.Tiff 0x013e field_type.Rational (Count 2 2)
    ∷ rule context.Tiff 0x013f field_type.Rational (Count 6 6)
    ∷ rule context.Tiff 0x0211 field_type.Rational (Count 3 3)
    ∷ rule context.Exif 0x829a field_type.Rational Fraction
    ∷ rule context.Exif 0x829d field_type.Rational Fraction
    ∷ rule context.Exif 0x8822 field_type.Short (Within 0 8)
    ∷ rule context.Exif 0x8824 field_type.Ascii Any
    ∷ rule context.Exif 0x8827 field_type.Short Any
    ∷ rule context.Exif 0x8830 field_type.Short (Within 0 7)
    ∷ rule context.Exif 0x8831 field_type.Long (Count 1 1)
    ∷ rule context.Exif 0x8832 field_type.Long (Count 1 1)
    ∷ rule context.Exif 0x8833 field_type.Long (Count 1 1)
    ∷ rule context.Exif 0x8834 field_type.Long (Count 1 1)
    ∷ rule context.Exif 0x8835 field_type.Long (Count 1 1)
    ∷ rule context.Exif 0x9003 field_type.Ascii Date
    ∷ rule context.Exif 0x9004 field_type.Ascii Date
    ∷ rule context.Exif 0x9010 field_type.Ascii Offset
    ∷ rule context.Exif 0x9011 field_type.Ascii Offset
    ∷ rule context.Exif 0x9012 field_type.Ascii Offset
    ∷ rule context.Exif 0x9102 field_type.Rational Fraction
    ∷ rule context.Exif 0x9201 field_type.SRational Fraction
    ∷ rule context.Exif 0x9202 field_type.Rational Fraction
    ∷ rule context.Exif 0x9203 field_type.SRational Fraction
    ∷ rule context.Exif 0x9204 field_type.SRational Fraction
    ∷ rule context.Exif 0x9205 field_type.Rational Fraction
    ∷ rule context.Exif 0x9206 field_type.Rational (Count 1 1)
    ∷ rule context.Exif 0x9207 field_type.Short (Listed MeteringModes)
    ∷ rule context.Exif 0x9208 field_type.Short (Listed LightSources)
    ∷ rule context.Exif 0x9209 field_type.Short (Listed FlashStates)
    ∷ rule context.Exif 0x920a field_type.Rational Fraction
    ∷ rule context.Exif 0x9214 field_type.Short (Count 2 4)
    ∷ rule context.Exif 0x9286 field_type.Undefined Comment
    ∷ rule context.Exif 0x9290 field_type.Ascii Digits
    ∷ rule context.Exif 0x9291 field_type.Ascii Digits
    ∷ rule context.Exif 0x9292 field_type.Ascii Digits
    ∷ rule context.Exif 0x9400 field_type.SRational Fraction
    ∷ rule context.Exif 0x9401 field_type.Rational Fraction
    ∷ rule context.Exif 0x9402 field_type.Rational Fraction
    ∷ rule context.Exif 0x9403 field_type.SRational Fraction
    ∷ rule context.Exif 0x9404 field_type.Rational Fraction
    ∷ rule context.Exif 0x9405 field_type.SRational Fraction
    ∷ rule context.Exif 0xa001 field_type.Short (Listed ColorSpaces)
    ∷ rule context.Exif 0xa004 field_type.Ascii (Count 13 13)
    ∷ rule context.Exif 0xa20b field_type.Rational Fraction
    ∷ rule context.Exif 0xa20e field_type.Rational Fraction
    ∷ rule context.Exif 0xa20f field_type.Rational Fraction
    ∷ rule context.Exif 0xa210 field_type.Short (Within 2 3)
    ∷ rule context.Exif 0xa214 field_type.Short (Count 2 2)
    ∷ rule context.Exif 0xa215 field_type.Rational Fraction
    ∷ rule context.Exif 0xa217 field_type.Short (Listed SensingMethods)
    ∷ rule context.Exif 0xa300 field_type.Undefined (Within 0 3)
    ∷ rule context.Exif 0xa301 field_type.Undefined (Within 1 1)
    ∷ rule context.Exif 0xa401 field_type.Short (Within 0 1)
    ∷ rule context.Exif 0xa402 field_type.Short (Within 0 2)
    ∷ rule context.Exif 0xa403 field_type.Short (Within 0 1)
    ∷ rule context.Exif 0xa404 field_type.Rational Fraction
    ∷ rule context.Exif 0xa405 field_type.Short (Count 1 1)
    ∷ rule context.Exif 0xa406 field_type.Short (Within 0 3)
    ∷ rule context.Exif 0xa407 field_type.Short (Within 0 4)
    ∷ rule context.Exif 0xa408 field_type.Short (Within 0 2)
    ∷ rule context.Exif 0xa409 field_type.Short (Within 0 2)
    ∷ rule context.Exif 0xa40a field_type.Short (Within 0 2)
    ∷ rule context.Exif 0xa40c field_type.Short (Within 0 3)
    ∷ rule context.Exif 0xa420 field_type.Ascii (Count 33 33)
    ∷ rule context.Exif 0xa430 field_type.Ascii Any
    ∷ rule context.Exif 0xa431 field_type.Ascii Any
    ∷ rule context.Exif 0xa432 field_type.Rational (Count 4 4)
    ∷ rule context.Exif 0xa433 field_type.Ascii Any
    ∷ rule context.Exif 0xa434 field_type.Ascii Any
    ∷ rule context.Exif 0xa435 field_type.Ascii Any
    ∷ rule context.Exif 0xa460 field_type.Short (Within 0 3)
    ∷ rule context.Exif 0xa461 field_type.Short (Count 2 2)
    ∷ rule context.Exif 0xa500 field_type.Rational Fraction
    ∷ rule context.Gps 0x0000 field_type.Byte (Count 4 4)
    ∷ rule context.Gps 0x0001 field_type.Ascii (Letter 78 83)
    ∷ rule context.Gps 0x0002 field_type.Rational (Degrees 90)
    ∷ rule context.Gps 0x0003 field_type.Ascii (Letter 69 87)
    ∷ rule context.Gps 0x0004 field_type.Rational (Degrees 180)
    ∷ rule context.Gps 0x0005 field_type.Byte (Within 0 1)
    ∷ rule context.Gps 0x0006 field_type.Rational Fraction
    ∷ rule context.Gps 0x0007 field_type.Rational Clock
    ∷ rule context.Gps 0x0008 field_type.Ascii Any
    ∷ rule context.Gps 0x0009 field_type.Ascii (Letter 65 86)
    ∷ rule context.Gps 0x000a field_type.Ascii (Letter 50 51)
    ∷ rule context.Gps 0x000b field_type.Rational Fraction
    ∷ rule context.Gps 0x000c field_type.Ascii Unit
    ∷ rule context.Gps 0x000d field_type.Rational Fraction
    ∷ rule context.Gps 0x000e field_type.Ascii (Letter 84 77)
    ∷ rule context.Gps 0x000f field_type.Rational (Below 360)
    ∷ rule context.Gps 0x0010 field_type.Ascii (Letter 84 77)
    ∷ rule context.Gps 0x0011 field_type.Rational (Below 360)
    ∷ rule context.Gps 0x0012 field_type.Ascii Any
    ∷ rule context.Gps 0x0013 field_type.Ascii (Letter 78 83)
    ∷ rule context.Gps 0x0014 field_type.Rational (Degrees 90)
    ∷ rule context.Gps 0x0015 field_type.Ascii (Letter 69 87)
    ∷ rule context.Gps 0x0016 field_type.Rational (Degrees 180)
    ∷ rule context.Gps 0x0017 field_type.Ascii (Letter 84 77)
    ∷ rule context.Gps 0x0018 field_type.Rational (Below 360)
    ∷ rule context.Gps 0x0019 field_type.Ascii Unit
    ∷ rule context.Gps 0x001a field_type.Rational Fraction
    ∷ rule context.Gps 0x001b field_type.Undefined Comment
    ∷ rule context.Gps 0x001c field_type.Undefined Comment
    ∷ rule context.Gps 0x001d field_type.Ascii Day
    ∷ rule context.Gps 0x001e field_type.Short (Within 0 1)
    ∷ rule context.Gps 0x001f field_type.Rational Fraction
    ∷ []

-- those of the tags that only change where a file has them: those that describe how the picture is
-- stored, and those that only programs write
abbrev pub kept_rules : List Rule
kept_rules =
    rule context.Tiff 0x0100 field_type.Long (Count 1 1)
    ∷ rule context.Tiff 0x0101 field_type.Long (Count 1 1)
    ∷ rule context.Tiff 0x0102 field_type.Short Any
    ∷ rule context.Tiff 0x0103 field_type.Short (Count 1 1)
    ∷ rule context.Tiff 0x0106 field_type.Short (Count 1 1)
    ∷ rule context.Tiff 0x0115 field_type.Short (Count 1 1)
    ∷ rule context.Tiff 0x0116 field_type.Long (Count 1 1)
    ∷ rule context.Tiff 0x011c field_type.Short (Within 1 2)
    ∷ rule context.Tiff 0x012d field_type.Short Any
    ∷ rule context.Tiff 0x0212 field_type.Short (Count 2 2)
    ∷ rule context.Tiff 0x0213 field_type.Short (Within 1 2)
    ∷ rule context.Tiff 0x0214 field_type.Rational Any
    ∷ rule context.Exif 0x8828 field_type.Undefined Any
    ∷ rule context.Exif 0x9000 field_type.Undefined (Count 4 4)
    ∷ rule context.Exif 0x9101 field_type.Undefined (Count 4 4)
    ∷ rule context.Exif 0x927c field_type.Undefined Nothing
    ∷ rule context.Exif 0xa000 field_type.Undefined (Count 4 4)
    ∷ rule context.Exif 0xa002 field_type.Long (Count 1 1)
    ∷ rule context.Exif 0xa003 field_type.Long (Count 1 1)
    ∷ rule context.Exif 0xa20c field_type.Undefined Any
    ∷ rule context.Exif 0xa302 field_type.Undefined Any
    ∷ rule context.Exif 0xa40b field_type.Undefined Any
    ∷ rule context.Exif 0xa462 field_type.Undefined Any
    ∷ rule context.Interop 0x0001 field_type.Ascii (Count 4 4)
    ∷ rule context.Interop 0x0002 field_type.Undefined (Count 4 4)
    ∷ rule context.Interop 0x1000 field_type.Ascii Any
    ∷ rule context.Interop 0x1001 field_type.Long (Count 1 1)
    ∷ rule context.Interop 0x1002 field_type.Long (Count 1 1)
    ∷ []

-- the rule of a tag among some, if it has one
abbrev pub rule_among : List Rule → Tag → Option Rule
rule_among rules tag = find (λ rule. tag_eq rule.0 tag) rules

-- the rule of a tag, if it has one
abbrev pub rule_of : Tag → Option Rule
rule_of tag = or_else (rule_among rules tag) (rule_among kept_rules tag)

-- the type of a new field
abbrev pub type_of_new : Tag → Option FieldType
type_of_new tag = option_map (λ rule. rule.1) (rule_among rules tag)

-- what values a tag can have
abbrev pub form_of : Tag → Form
form_of tag = elim (rule_of tag) [ Some rule ↦ rule.2 | None ↦ Any ]

-- how the text of a value is read by its type
abbrev pub spelling_by : FieldType → Spelling
spelling_by field_type.Ascii = spelling.Text
spelling_by field_type.Undefined = spelling.Bytes
spelling_by field_type.Rational = spelling.Fraction
spelling_by field_type.SRational = spelling.SignedFraction
spelling_by field_type.Float = spelling.Nothing
spelling_by field_type.Double = spelling.Nothing
spelling_by _ = spelling.Number

-- the same by what values a tag can have
abbrev pub spelling_as : Form → FieldType → Spelling
spelling_as Nothing type = spelling.Nothing
spelling_as Comment type = spelling.Text
spelling_as (Within low high) type = spelling.Number
spelling_as _ type = spelling_by type

-- the same by the tag
abbrev pub spelling_of : Tag → Spelling
spelling_of tag =
    elim (rule_of tag) [ Some rule ↦ spelling_as rule.2 rule.1 | None ↦ spelling.Nothing ]
