-- The JSON of a value.
use Rattle.std.specs.Prelude.{ℕ, [], ◌∷◌, map}
use Rattle.json.specs.Json as J
use Rattle.json.specs.Json.{Json}
use Rattle.exif_text.specs.Contents as C
use Rattle.exif_text.specs.Plain.{plain_text, bits_text}
use Rattle.exif_types.specs.declared.value.Value.{Value}
use Rattle.exif_types.specs.declared.value.Value.TheVariants.{Byte, Ascii, Short, Long, Rational, SByte, Undefined, SShort, SLong, SRational, Float, Double, Unknown}
use Rattle.exif_text.specs.declared.rational.Rational as R
use Rattle.exif_text.specs.declared.rational.SRational as S
use Rattle.exif_json.specs.Trees.{array, unsigned, signed}
use Rattle.exif_json.specs.Texts.{text_json}

-- a fraction is the pair of its numerator and its denominator
abbrev pub rational_json : R.Rational → Json
rational_json r = array (unsigned r.num ∷ unsigned r.denom ∷ [])

-- a signed fraction is the pair of its numerator and its denominator, each with its sign
abbrev pub srational_json : S.SRational → Json
srational_json r = array (signed r.num ∷ signed r.denom ∷ [])

-- the bits of floating point numbers, with at least k hexadecimal digits behind `0x`
abbrev pub bits_json : ℕ → ℕ → Json
bits_json k bits = J.string (bits_text k bits)

-- numbers, fractions and texts are arrays of them, bytes of any meaning are hexadecimal digits,
-- and a value of an unknown type is null
abbrev pub value_json : Value → Json
value_json (Byte xs) = array (map unsigned xs)
value_json (Ascii xs) = array (map text_json xs)
value_json (Short xs) = array (map unsigned xs)
value_json (Long xs) = array (map unsigned xs)
value_json (Rational xs) = array (map rational_json xs)
value_json (SByte xs) = array (map signed xs)
value_json (Undefined xs offset) = J.string (plain_text (C.Undefined xs))
value_json (SShort xs) = array (map signed xs)
value_json (SLong xs) = array (map signed xs)
value_json (SRational xs) = array (map srational_json xs)
value_json (Float xs) = array (map (bits_json 8) xs)
value_json (Double xs) = array (map (bits_json 16) xs)
value_json (Unknown type count offset) = J.null
