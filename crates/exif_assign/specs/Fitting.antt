-- Which values the standard has for a tag (Exif 2.32, sections 4.6.4 to 4.6.8).
use Rattle.std.specs.Prelude.{ℕ, ◌/◌, ◌%◌, ◌==◌, ◌&&◌, ◌||◌, not, nat_le, nat_lt, is_ok, if◌then◌else◌, Bool, true, false, List, [], ◌∷◌, length, slice_index, pos, Option, Some, None, Ok, Err}
use Rattle.std.specs.Char.{is_ascii_digit}
use Rattle.std.specs.List.{list_all, list_any}
use Rattle.std.specs.Ordering.{int_eq}
use Rattle.exif_text.specs.Dates.{parse_offset, read_date}
use Rattle.exif_types.specs.ValueTypes.{count_of}
use Rattle.exif_types.specs.declared.value.Value.{Value}
use Rattle.exif_types.specs.declared.value.Value.TheVariants.{Byte, Ascii, Short, Long, Rational, Undefined, SRational}
use Rattle.exif_datetime.specs.Calendar.{is_day}
use Rattle.exif_datetime.specs.Shift.{stated}
use Rattle.exif_assign.specs.Texts.{Quotient}
use Rattle.exif_assign.specs.declared.rules.Form.{Form}
use Rattle.exif_assign.specs.declared.rules.Form.TheVariants.{Any, Nothing, Count, Date, Day, Offset, Digits, Comment, Within, Listed, Fraction, Below, Degrees, Clock, Letter, Unit}
use Rattle.exif_assign.specs.declared.rules.Listing.{Listing}
use Rattle.exif_assign.specs.declared.rules.Listing.TheVariants.{MeteringModes, LightSources, FlashStates, ColorSpaces, SensingMethods}

-- the only one of a list
abbrev pub only : {A : Type 0} → List A → Option A
only [] = None
only (x ∷ []) = Some x
only (x ∷ y ∷ xs) = None

-- the number of a value that holds one
abbrev pub number_of : Value → Option ℕ
number_of (Byte items) = only items
number_of (Short items) = only items
number_of (Long items) = only items
number_of (Undefined bytes offset) = only bytes
number_of _ = None

-- whether a value is one number, from the first to the second
abbrev pub is_within : ℕ → ℕ → Value → Bool
is_within low high value = elim (number_of value) [
  | Some number ↦ nat_le low number && nat_le number high
  | None ↦ false
]

-- the combinations of the bits of Flash that are not reserved
abbrev pub flash_states : List ℕ
flash_states =
    0x00 ∷ 0x01 ∷ 0x05 ∷ 0x07 ∷ 0x09 ∷ 0x0d ∷ 0x0f ∷ 0x10 ∷ 0x18 ∷ 0x19 ∷ 0x1d ∷ 0x1f ∷ 0x20 ∷ 0x41
    ∷ 0x45 ∷ 0x47 ∷ 0x49 ∷ 0x4d ∷ 0x4f ∷ 0x59 ∷ 0x5d ∷ 0x5f ∷ []

-- whether the standard lists a number
abbrev pub lists : Listing → ℕ → Bool
lists MeteringModes number = nat_le number 6 || (number == 255)
lists LightSources number =
    nat_le number 4 || ((nat_le 9 number && nat_le number 24) || (number == 255))
lists FlashStates number = list_any (λ state. state == number) flash_states
lists ColorSpaces number = (number == 1) || (number == 65535)
lists SensingMethods number =
    (nat_le 1 number && nat_le number 5) || ((number == 7) || (number == 8))

-- whether a value is one number that the standard lists
abbrev pub is_listed : Listing → Value → Bool
is_listed listing value =
    elim (number_of value) [ Some number ↦ lists listing number | None ↦ false ]

-- whether a value has from so many items to so many, the zero behind a text counted
abbrev pub is_counted : ℕ → ℕ → Value → Bool
is_counted low high value = nat_le low (count_of value) && nat_le (count_of value) high

-- the text of a value that holds one
abbrev pub first_text : Value → Option (List ℕ)
first_text (Ascii texts) = only texts
first_text _ = None

-- whether a value is a date of the calendar
abbrev pub is_date : Value → Bool
is_date value = elim (first_text value) [
  | Some text ↦ is_ok (stated text) && (length text == 19)
  | None ↦ false
]

-- whether a text is a day of the calendar, as `2016:05:04`
abbrev pub states_day : List ℕ → Bool
states_day text = elim (read_date text) [ Ok date ↦ is_day date | Err fault ↦ false ]

-- whether a value is one
abbrev pub is_day_text : Value → Bool
is_day_text value = elim (first_text value) [
  | Some text ↦ (length text == 10) && states_day text
  | None ↦ false
]

-- whether a text has two digits that are less than 24, and behind a colon two that are less than 60
abbrev pub has_clock : List ℕ → Bool
has_clock text =
    (nat_lt (slice_index text 1) 50 || ((slice_index text 1 == 50) && nat_lt (slice_index text 2) 52))
    && nat_lt (slice_index text 4) 54

-- whether a value is an offset from UTC, as `+01:00`
abbrev pub is_offset : Value → Bool
is_offset value = elim (first_text value) [
  | Some text ↦ (length text == 6) && (is_ok (parse_offset text) && has_clock text)
  | None ↦ false
]

-- whether a value is a text of digits
abbrev pub is_digits : Value → Bool
is_digits value = elim (first_text value) [
  | Some text ↦ not (length text == 0) && list_all is_ascii_digit text
  | None ↦ false
]

-- whether a value is one of two letters
abbrev pub is_letter : ℕ → ℕ → Value → Bool
is_letter one other value = elim (first_text value) [
  | Some text ↦
      (length text == 1) && ((slice_index text 0 == one) || (slice_index text 0 == other))
  | None ↦ false
]

-- whether a value is the letter of a unit: K, M or N
abbrev pub is_unit : Value → Bool
is_unit value = is_letter 75 77 value || is_letter 78 78 value

-- whether a value is one fraction over another number than 0
abbrev pub is_fraction : Value → Bool
is_fraction (Rational items) =
    elim (only items) [ Some of ↦ not (of.denom == 0) | None ↦ false ]
is_fraction (SRational items) =
    elim (only items) [ Some of ↦ not (int_eq of.denom (pos 0)) | None ↦ false ]
is_fraction _ = false

-- whether a fraction is less than a number
abbrev pub is_less : Quotient → ℕ → Bool
is_less of than = not (of.denom == 0) && nat_lt (of.num / of.denom) than

-- whether a value is one fraction that is less than a number
abbrev pub is_below : ℕ → Value → Bool
is_below than (Rational items) = elim (only items) [ Some of ↦ is_less of than | None ↦ false ]
is_below than _ = false

-- whether fractions are hours, minutes and seconds of a day, with a leap second
abbrev pub three_of_clock : List Quotient → Bool
three_of_clock (hours ∷ minutes ∷ seconds ∷ []) =
    is_less hours 24 && (is_less minutes 60 && is_less seconds 61)
three_of_clock _ = false

-- whether a value is such
abbrev pub is_clock : Value → Bool
is_clock (Rational items) = three_of_clock items
is_clock _ = false

-- whether degrees, minutes and seconds are at most so many degrees
abbrev pub are_degrees : ℕ → Quotient → Quotient → Quotient → Bool
are_degrees most degrees minutes seconds =
    if is_less degrees most then is_less minutes 60 && is_less seconds 60
    else (not (degrees.denom == 0) && ((degrees.num % degrees.denom == 0)
    && ((degrees.num / degrees.denom == most) && ((minutes.num == 0) && (seconds.num == 0)))))

-- whether fractions are such
abbrev pub three_degrees : ℕ → List Quotient → Bool
three_degrees most (degrees ∷ minutes ∷ seconds ∷ []) = are_degrees most degrees minutes seconds
three_degrees most _ = false

-- whether a value is degrees, minutes and seconds, at most so many degrees
abbrev pub is_degrees : ℕ → Value → Bool
is_degrees most (Rational items) = three_degrees most items
is_degrees most _ = false

-- whether a tag can have a value
abbrev pub fits : Form → Value → Bool
fits Any value = true
fits Nothing value = false
fits (Count low high) value = is_counted low high value
fits Date value = is_date value
fits Day value = is_day_text value
fits Offset value = is_offset value
fits Digits value = is_digits value
fits Comment value = true
fits (Within low high) value = is_within low high value
fits (Listed listing) value = is_listed listing value
fits Fraction value = is_fraction value
fits (Below than) value = is_below than value
fits (Degrees most) value = is_degrees most value
fits Clock value = is_clock value
fits (Letter one other) value = is_letter one other value
fits Unit value = is_unit value
