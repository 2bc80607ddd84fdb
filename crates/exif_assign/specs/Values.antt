-- Values that texts spell (Exif 2.32, sections 4.6.4 to 4.6.8).
use Rattle.std.specs.Prelude.{◌≡◌, ⊤, ℕ, ◌*◌, ◌/◌, ◌%◌, ◌==◌, ◌&&◌, ◌||◌, not, nat_lt, if◌then◌else◌, Bool, List, [], ◌∷◌, ◌++◌, length, take, slice_index, slice_set, ◌^◌, min, Option, Some, None, Result, Ok, Err}
use Rattle.std.specs.List.{list_all, list_any}
use Rattle.std.specs.Option.{option_and_then, option_map}
use Rattle.exif_text.specs.declared.field_type.FieldType.{FieldType}
use Rattle.exif_text.specs.declared.field_type.FieldType.TheVariants as field_type
use Rattle.exif_types.specs.declared.tag.Tag.{Tag}
use Rattle.exif_types.specs.declared.value.Value.{Value}
use Rattle.exif_types.specs.declared.value.Value.TheVariants.{Byte, Ascii, Short, Long, Rational, SByte, Undefined, SShort, SLong, SRational}
use Rattle.exif_datetime.specs.Numbers.{cut, number_below}
use Rattle.exif_assign.specs.Rules.{form_of}
use Rattle.exif_assign.specs.Texts.{Quotient, fraction, i16_in, i32_in, i8_in, items_in, rational_in, srational_in, u16_in, u32_in, u8_in}
use Rattle.exif_assign.specs.declared.rules.Form.{Form}
use Rattle.exif_assign.specs.declared.rules.Form.TheVariants.{Date, Day, Comment, Within, Degrees}
use Rattle.exif_assign.specs.declared.spelled.ValueError.{ValueError}
use Rattle.exif_assign.specs.declared.spelled.ValueError.TheVariants.{NotOfItsType, OutOfRange, OutOfMemory}
use Rattle.exif_assign.specs.Fitting.{fits}

-- a result is the answer; out of memory says nothing
abbrev pub ValuesAs : Result Value ValueError → Result Value ValueError → Type 0
ValuesAs (Ok value) answer = answer ≡ Ok value
ValuesAs (Err OutOfMemory) answer = ⊤
ValuesAs (Err NotOfItsType) answer = answer ≡ Err NotOfItsType
ValuesAs (Err OutOfRange) answer = answer ≡ Err OutOfRange

-- ---- by type

-- a text, which holds no zero byte
abbrev pub text_in : List ℕ → Option Value
text_in text = if list_any (λ byte. byte == 0) text then None else Some (Ascii (text ∷ []))

-- whether a text has what may separate the parts of a date, as ISO 8601 and Exif do
abbrev pub has_separators : List ℕ → Bool
has_separators text =
    ((slice_index text 4 == 58) || (slice_index text 4 == 45))
    && (((slice_index text 7 == 58) || (slice_index text 7 == 45))
    && ((slice_index text 10 == 32) || (slice_index text 10 == 84)))

-- a date with the separators of Exif data
abbrev pub date_in : List ℕ → Option Value
date_in text =
    if not (length text == 19) || not (has_separators text) then None
    else Some (Ascii (slice_set (slice_set (slice_set text 4 58) 7 58) 10 32 ∷ []))

-- whether a text has what may separate the parts of a day
abbrev pub has_day_separators : List ℕ → Bool
has_day_separators text =
    ((slice_index text 4 == 58) || (slice_index text 4 == 45))
    && ((slice_index text 7 == 58) || (slice_index text 7 == 45))

-- a day with the separators of Exif data
abbrev pub day_in : List ℕ → Option Value
day_in text =
    if not (length text == 10) || not (has_day_separators text) then None
    else Some (Ascii (slice_set (slice_set text 4 58) 7 58 ∷ []))

-- the character code of a comment: ASCII, or none
abbrev pub character_code : List ℕ → List ℕ
character_code text =
    if list_all (λ byte. nat_lt byte 128) text then 65 ∷ 83 ∷ 67 ∷ 73 ∷ 73 ∷ 0 ∷ 0 ∷ 0 ∷ []
    else 0 ∷ 0 ∷ 0 ∷ 0 ∷ 0 ∷ 0 ∷ 0 ∷ 0 ∷ []

-- bytes of any meaning
abbrev pub bytes_of : List ℕ → Value
bytes_of bytes = Undefined bytes 0

-- a comment behind its character code, a number, or the bytes of the text
abbrev pub undefined_value : Form → List ℕ → Option Value
undefined_value Comment text = Some (bytes_of (character_code text ++ text))
undefined_value (Within low high) text = option_map bytes_of (items_in u8_in text)
undefined_value _ text = Some (bytes_of text)

-- degrees, minutes and seconds of a decimal
abbrev pub parts_of : ℕ → ℕ → ℕ → List Quotient
parts_of degrees part denom =
    fraction degrees 1 ∷ fraction (part * 60 / denom) 1
    ∷ fraction (part * 60 % denom * 60) denom ∷ []

-- whole degrees, and the digits of a part of one, of which seven count
abbrev pub decimal_degrees : List ℕ × List ℕ → Option (List Quotient)
decimal_degrees (whole, digits) =
    let counted = take (min (length digits) 7) digits in
    let denom = 10 ^ length counted in
    option_and_then (λ degrees. option_map (λ part. parts_of degrees part denom)
    (number_below denom counted)) (number_below 1000 whole)

-- degrees as a decimal
abbrev pub degrees_in : List ℕ → Option (List Quotient)
degrees_in text = elim (cut 46 text) [
  | Some parts ↦ decimal_degrees parts
  | None ↦ option_map (λ degrees. fraction degrees 1 ∷ fraction 0 1 ∷ fraction 0 1 ∷ [])
      (number_below 1000 text)
]

-- degrees as a decimal, or as three fractions
abbrev pub degrees_value : List ℕ → Option Value
degrees_value text = elim (degrees_in text) [
  | Some parts ↦ Some (Rational parts)
  | None ↦ option_map Rational (items_in rational_in text)
]

-- fractions, or degrees
abbrev pub rational_value : Form → List ℕ → Option Value
rational_value (Degrees most) text = degrees_value text
rational_value _ text = option_map Rational (items_in rational_in text)

-- a text, a date or a day
abbrev pub ascii_value : Form → List ℕ → Option Value
ascii_value Date text = date_in text
ascii_value Day text = day_in text
ascii_value _ text = text_in text

-- the value of a type that a text spells
abbrev pub spelled_value : Tag → FieldType → List ℕ → Option Value
spelled_value tag field_type.Ascii text = ascii_value (form_of tag) text
spelled_value tag field_type.Undefined text = undefined_value (form_of tag) text
spelled_value tag field_type.Byte text = option_map Byte (items_in u8_in text)
spelled_value tag field_type.Short text = option_map Short (items_in u16_in text)
spelled_value tag field_type.Long text = option_map Long (items_in u32_in text)
spelled_value tag field_type.SByte text = option_map SByte (items_in i8_in text)
spelled_value tag field_type.SShort text = option_map SShort (items_in i16_in text)
spelled_value tag field_type.SLong text = option_map SLong (items_in i32_in text)
spelled_value tag field_type.Rational text = rational_value (form_of tag) text
spelled_value tag field_type.SRational text = option_map SRational (items_in srational_in text)
spelled_value tag field_type.Float text = None
spelled_value tag field_type.Double text = None

-- a value, if the tag can have it
abbrev pub fitting : Form → Option Value → Result Value ValueError
fitting form None = Err NotOfItsType
fitting form (Some value) = if fits form value then Ok value else Err OutOfRange

-- the value of a type that a text spells for a tag
unfoldable pub value_in : Tag → FieldType → List ℕ → Result Value ValueError
value_in tag field_type text = fitting (form_of tag) (spelled_value tag field_type text)
