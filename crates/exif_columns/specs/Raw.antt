-- Values as numbers and texts, without units.
use Rattle.std.specs.Prelude.{ℕ, ◌==◌, unsigned_abs, List, [], if◌then◌else◌}
use Rattle.std.specs.Fmt.{decimal, signed_decimal}
use Rattle.std.specs.List.{flat_map}
use Rattle.exif_text.specs.Decimal.{rational_decimal, srational_decimal}
use Rattle.exif_text.specs.Plain.{bits_text}
use Rattle.exif_text.specs.Quoted.{hex_byte}
use Rattle.exif_text.specs.declared.rational.Rational as R
use Rattle.exif_text.specs.declared.rational.SRational as S
use Rattle.exif_types.specs.declared.value.Value.{Value}
use Rattle.exif_types.specs.declared.value.Value.TheVariants.{Byte, Ascii, Short, Long, Rational, SByte, Undefined, SShort, SLong, SRational, Float, Double, Unknown}
use Rattle.exif_columns.specs.Texts.{separated, text_of}

-- a fraction as a decimal, cut after nine places; nothing where it is over 0
abbrev pub raw_fraction : R.Rational → List ℕ
raw_fraction r = if r.denom == 0 then [] else rational_decimal r

-- the same of a fraction with a sign
abbrev pub raw_signed_fraction : S.SRational → List ℕ
raw_signed_fraction r = if unsigned_abs r.denom == 0 then [] else srational_decimal r

-- integers in decimal, fractions as decimals, texts as they are, the bits of floating point numbers
-- in hexadecimal behind `0x`, each with a space (32) between two; bytes of any meaning as lower
-- hexadecimal digits; nothing of a type that is not known
abbrev pub raw_value : Value → List ℕ
raw_value (Byte xs) = separated 32 decimal xs
raw_value (Ascii texts) = separated 32 text_of texts
raw_value (Short xs) = separated 32 decimal xs
raw_value (Long xs) = separated 32 decimal xs
raw_value (Rational rs) = separated 32 raw_fraction rs
raw_value (SByte xs) = separated 32 signed_decimal xs
raw_value (Undefined bytes offset) = flat_map hex_byte bytes
raw_value (SShort xs) = separated 32 signed_decimal xs
raw_value (SLong xs) = separated 32 signed_decimal xs
raw_value (SRational rs) = separated 32 raw_signed_fraction rs
raw_value (Float xs) = separated 32 (bits_text 8) xs
raw_value (Double xs) = separated 32 (bits_text 16) xs
raw_value (Unknown type count offset) = []
