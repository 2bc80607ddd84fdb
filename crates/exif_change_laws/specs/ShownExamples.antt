-- Worked examples: what is shown of values, and what is read of it.
use Rattle.std.specs.Prelude.{◌≡◌, refl, true, false, ℕ, [], ◌∷◌, codes, pos, negsuc, Some, None, Ok, Err}
use Rattle.std.specs.Fmt.{digits}
use Rattle.exif_table.specs.declared.context.Context.TheVariants as context
use Rattle.exif_table.specs.declared.kind.TextKind.TheVariants as K
use Rattle.exif_text.specs.Decimal.{decimal_text, fraction_text, in_digits, without_last_zeros}
use Rattle.exif_text.specs.declared.field_type.FieldType.TheVariants as field_type
use Rattle.exif_text.specs.declared.rational.SRational.{SRational as SignedFraction}
use Rattle.exif_types.specs.TagRows.{row_of_tag}
use Rattle.exif_types.specs.ValueTexts.{text_of}
use Rattle.exif_types.specs.declared.tag.Tag.{Tag}
use Rattle.exif_types.specs.declared.value.Value.TheVariants.{Short, SRational}
use Rattle.exif_assign.specs.Texts.{fraction}
use Rattle.exif_assign.specs.Values.{value_in}
use Rattle.exif_assign.specs.declared.spelled.ValueError.TheVariants.{NotOfItsType}
use Rattle.exif_change_laws.specs.Shown.{as_decimals, as_shown, is_decimal, is_spelled, one, shortened, shown_one}

-- a tag of the directory of context Exif
abbrev exif : ℕ → Tag
exif number = record { 0 = context.Exif; 1 = number }

-- ISO speed 800
speed_shown : text_of (exif 0x8827) (Short (800 ∷ [])) ≡ codes "800"
unfolding text_of row_of_tag digits
speed_shown = refl

speed_read : value_in (exif 0x8827) field_type.Short (codes "800") ≡ Ok (Short (800 ∷ []))
unfolding value_in
speed_read = refl

speed_spelled : is_spelled (Short (800 ∷ [])) ≡ true
speed_spelled = refl

-- f/2.8 from 28/10, and from 14/5: 28/10 is read of both
f_number_shown : text_of (exif 0x829d) (one (fraction 28 10)) ≡ codes "2.8"
unfolding text_of row_of_tag decimal_text fraction_text in_digits without_last_zeros digits
f_number_shown = refl

f_number_read : value_in (exif 0x829d) field_type.Rational (codes "2.8") ≡ Ok (one (fraction 28 10))
unfolding value_in
f_number_read = refl

f_number_as_shown : as_decimals (one (fraction 28 10)) ≡ one (fraction 28 10)
unfolding shortened
f_number_as_shown = refl

other_f_number : as_shown (fraction 14 5) ≡ fraction 28 10
unfolding shortened
other_f_number = refl

-- a third of a stop darker: nine places of it
abbrev third : SignedFraction
third = record { num = negsuc 0; denom = pos 3 }

third_shown : text_of (exif 0x9204) (SRational (third ∷ [])) ≡ codes "-0.333333333"
unfolding text_of row_of_tag decimal_text fraction_text in_digits without_last_zeros digits
third_shown = refl

third_as_shown : as_decimals (SRational (third ∷ []))
    ≡ SRational (record { num = negsuc 333333332; denom = pos 1000000000 } ∷ [])
unfolding shortened
third_as_shown = refl

third_read : value_in (exif 0x9204) field_type.SRational (codes "-0.333333333")
    ≡ Ok (as_decimals (SRational (third ∷ [])))
unfolding shortened value_in
third_read = refl

-- a fraction with more places than 32 bits hold is not read
long_shown : text_of (exif 0x829d) (one (fraction 4294967295 7)) ≡ codes "613566756.428571428"
unfolding text_of row_of_tag decimal_text fraction_text in_digits without_last_zeros digits
long_shown = refl

long_not_read : value_in (exif 0x829d) field_type.Rational (codes "613566756.428571428")
    ≡ Err NotOfItsType
unfolding value_in
long_not_read = refl

long_no_decimal : is_decimal (fraction 4294967295 7) ≡ false
unfolding shortened
long_no_decimal = refl

-- 10/2000 of a second, and two seconds and a half
time_shown : text_of (exif 0x829a) (one (fraction 10 2000)) ≡ codes "1/200"
unfolding text_of row_of_tag decimal_text fraction_text in_digits without_last_zeros digits
time_shown = refl

time_read : value_in (exif 0x829a) field_type.Rational (codes "1/200") ≡ Ok (one (fraction 1 200))
unfolding value_in
time_read = refl

time_as_shown : shown_one K.ExposureTime (fraction 10 2000) ≡ Some (fraction 1 200)
time_as_shown = refl

long_time : shown_one K.ExposureTime (fraction 5 2) ≡ Some (fraction 25 10)
unfolding shortened
long_time = refl

-- 3/200 is shown as 1/66.666666666, which is no fraction
no_inverse : shown_one K.ExposureTime (fraction 3 200) ≡ None
no_inverse = refl

no_time : value_in (exif 0x829a) field_type.Rational (codes "1/66.666666666") ≡ Err NotOfItsType
unfolding value_in
no_time = refl

-- a distance of 4294967.295 m is read as 4294967295/1000, whose upper number says infinity: of this
-- one a word is shown
far : shown_one K.SubjectDistance (fraction 858993459 200) ≡ Some (fraction 4294967295 1000)
unfolding shortened
far = refl

far_shown : text_of (exif 0x9206) (one (fraction 858993459 200)) ≡ codes "4294967.295"
unfolding text_of row_of_tag decimal_text fraction_text in_digits without_last_zeros digits
far_shown = refl

far_again : text_of (exif 0x9206) (one (fraction 4294967295 1000)) ≡ codes "infinity"
unfolding text_of row_of_tag digits
far_again = refl

far_word : shown_one K.SubjectDistance (fraction 4294967295 1000) ≡ None
far_word = refl
