-- Shifts of a clock, and dates moved by them.
use Rattle.std.specs.Prelude.{ℕ, ◌+◌, ◌-◌, ◌*◌, ◌/◌, ◌%◌, ◌==◌, ◌&&◌, nat_le, nat_lt, not, if◌then◌else◌, Bool, true, false, List, [], ◌∷◌, ◌++◌, length, drop, Option, Some, None, Result, Ok, Err}
use Rattle.std.specs.Option.{option_and_then, option_map}
use Rattle.exif_text.specs.Dates.{parse_datetime}
use Rattle.exif_text.specs.declared.date.Date.{Date}
use Rattle.exif_text.specs.declared.date.TimeOfDay.{TimeOfDay}
use Rattle.exif_text.specs.declared.date_fault.DateFault.{DateFault}
use Rattle.exif_text.specs.declared.date_fault.DateFault.TheVariants.{BlankDate}
use Rattle.exif_types.specs.declared.value.Value.{Value}
use Rattle.exif_types.specs.declared.value.Value.TheVariants.{Ascii}
use Rattle.exif_datetime.specs.Calendar.{is_day, is_time, moment_at, seconds_of}
use Rattle.exif_datetime.specs.Numbers.{cut, number_below}
use Rattle.exif_datetime.specs.declared.shift.ClockShift.{ClockShift}
use Rattle.exif_datetime.specs.declared.shift.Unmoved.{Unmoved}
use Rattle.exif_datetime.specs.declared.shift.Unmoved.TheVariants.{Blank, Invalid, OutOfRange}

-- ---- the text of a shift

-- the seconds of hours, minutes and seconds
abbrev pub clock_of : ℕ → List ℕ → ℕ → Option ℕ
clock_of hours minutes seconds =
    option_map (λ minutes. hours * 3600 + minutes * 60 + seconds) (number_below 60 minutes)

-- those of hours, and of `MM:SS`
abbrev pub clock_with : ℕ → List ℕ × List ℕ → Option ℕ
clock_with hours (minutes, seconds) =
    option_and_then (clock_of hours minutes) (number_below 60 seconds)

-- those of hours, and of `MM` or `MM:SS`
abbrev pub minutes_in : ℕ → List ℕ → Option ℕ
minutes_in hours text =
    elim (cut 58 text) [ Some parts ↦ clock_with hours parts | None ↦ clock_of hours text 0 ]

-- those of `HH`, and of `MM` or `MM:SS`
abbrev pub hours_with : List ℕ × List ℕ → Option ℕ
hours_with (hours, rest) =
    option_and_then (λ hours. minutes_in hours rest) (number_below 1000000 hours)

-- those that `HH:MM` or `HH:MM:SS` spells
abbrev pub clock_in : List ℕ → Option ℕ
clock_in text = option_and_then hours_with (cut 58 text)

-- those of days, and of such a text
abbrev pub days_with : List ℕ × List ℕ → Option ℕ
days_with (days, clock) =
    option_and_then (λ days. option_map (λ seconds. days * 86400 + seconds) (clock_in clock))
    (number_below 10000000 days)

-- those that such a text spells, where days and a `d` may be in front
abbrev pub seconds_in : List ℕ → Option ℕ
seconds_in text = elim (cut 100 text) [ Some parts ↦ days_with parts | None ↦ clock_in text ]

-- the shift by so many seconds
abbrev pub shift_by : Bool → Option ℕ → Option ClockShift
shift_by is_back seconds =
    option_map (λ seconds. record { seconds = seconds; is_back = is_back }) seconds

-- the shift that a text spells, with its sign in front
abbrev pub shift_in : List ℕ → Option ClockShift
shift_in [] = None
shift_in (sign ∷ text) =
    if sign == 45 then shift_by true (seconds_in text)
    else (if sign == 43 then shift_by false (seconds_in text)
    else shift_by false (seconds_in (sign ∷ text)))

-- ---- dates moved

-- seconds since the beginning of the year 0, moved: 2^42 are more than the years of four digits
-- have
abbrev pub moved_seconds : ClockShift → ℕ → Option ℕ
moved_seconds by old =
    if by.is_back then (if nat_lt old by.seconds then None else Some (old - by.seconds))
    else (if nat_lt by.seconds 0x40000000000 then Some (old + by.seconds) else None)

-- a date and a time moved over the calendar
abbrev pub moved : ClockShift → Date × TimeOfDay → Option (Date × TimeOfDay)
moved by (date, time) = option_and_then moment_at (moved_seconds by (seconds_of date time))

-- the shift the other way
abbrev pub opposite : ClockShift → ClockShift
opposite by = record { seconds = by.seconds; is_back = not by.is_back }

-- a date and a time, if the calendar and the clock have them
abbrev pub on_calendar : List ℕ → Date × TimeOfDay → Result (Date × TimeOfDay) Unmoved
on_calendar text (date, time) =
    if (is_day date && is_time time) && nat_le 19 (length text) then Ok (date, time)
    else (if (date.month == 0) && (date.day == 0) then Err Blank else Err Invalid)

-- why a text states no date
abbrev pub unmoved_by : DateFault → Unmoved
unmoved_by BlankDate = Blank
unmoved_by _ = Invalid

-- the date and the time that a text states (Exif 2.32, 4.6.4)
abbrev pub stated : List ℕ → Result (Date × TimeOfDay) Unmoved
stated text = elim (parse_datetime text) [
  | Ok moment ↦ on_calendar text moment
  | Err fault ↦ Err (unmoved_by fault)
]

-- the last digit of a number
abbrev pub digit : ℕ → ℕ
digit number = 48 + number % 10

-- `2016:05:04 03:02:01` (Exif 2.32, 4.6.4)
abbrev pub moment_text : Date × TimeOfDay → List ℕ
moment_text (date, time) =
    digit (date.year / 1000) ∷ digit (date.year / 100) ∷ digit (date.year / 10) ∷ digit date.year
    ∷ 58 ∷ digit (date.month / 10) ∷ digit date.month ∷ 58 ∷ digit (date.day / 10) ∷ digit date.day
    ∷ 32 ∷ digit (time.hour / 10) ∷ digit time.hour ∷ 58 ∷ digit (time.minute / 10) ∷ digit time.minute
    ∷ 58 ∷ digit (time.second / 10) ∷ digit time.second ∷ []

-- the text of a date that was moved, if it was
abbrev pub text_or : Option (Date × TimeOfDay) → Result (List ℕ) Unmoved
text_or (Some moment) = Ok (moment_text moment)
text_or None = Err OutOfRange

-- the text of a date, moved
abbrev pub moved_text : ClockShift → List ℕ → Result (List ℕ) Unmoved
moved_text by text =
    elim (stated text) [ Ok moment ↦ text_or (moved by moment) | Err why ↦ Err why ]

-- a value of texts, of which the first begins with another date
abbrev pub with_date : List ℕ → List (List ℕ) → Value
with_date date [] = Ascii []
with_date date (first ∷ others) = Ascii ((date ++ drop 19 first) ∷ others)

-- a value of texts with its date moved
abbrev pub moved_texts : ClockShift → List (List ℕ) → Result Value Unmoved
moved_texts by [] = Err Blank
moved_texts by (first ∷ others) = elim (moved_text by first) [
  | Ok date ↦ Ok (with_date date (first ∷ others))
  | Err why ↦ Err why
]

-- a value with its date moved, or why it is not
abbrev pub moved_value : ClockShift → Value → Result Value Unmoved
moved_value by (Ascii texts) = moved_texts by texts
moved_value by _ = Err Invalid
