-- Dates and times by the positions of their digits (Exif 2.32, sections 4.6.4 and 4.6.5).
use Rattle.std.specs.Prelude.{ℕ, ◌+◌, ◌*◌, ◌==◌, ◌&&◌, ◌||◌, not, nat_lt, nat_eq, if◌then◌else◌, Bool, List, ◌++◌, length, codes, slice_index, Result, Ok, Err, ℤ, pos, ◌-ℤ◌}
use Rattle.std.specs.Cmp.Lexicographic.{pointwise}
use Rattle.exif_text.specs.declared.date.Date.{Date}
use Rattle.exif_text.specs.declared.date.TimeOfDay.{TimeOfDay}
use Rattle.exif_text.specs.declared.date_fault.DateFault.{DateFault}
use Rattle.exif_text.specs.declared.date_fault.DateFault.TheVariants.{BlankDate, DateTooShort, InvalidDateDelimiter, NotANumber, BlankOffset, OffsetTooShort, InvalidOffsetDelimiter, InvalidOffsetSign}
use Rattle.exif_text.specs.Clock.{date_text, time_text}
use Rattle.exif_text.specs.Digits.{are_two_at, two_at}

-- these bytes
abbrev is_text : List ℕ → List ℕ → Bool
is_text bytes text = pointwise nat_eq bytes text

-- only spaces, or spaces with colons at 4, 7, 13 and 16
abbrev pub is_blank : List ℕ → Bool
is_blank bytes = is_text bytes (codes "    :  :     :  :  ")
    || is_text bytes (codes "                   ")

-- colons at 4, 7, 13 and 16, and a space at 10
abbrev pub has_delimiters : List ℕ → Bool
has_delimiters bytes =
    (slice_index bytes 4 == 58 && (slice_index bytes 7 == 58
    && (slice_index bytes 13 == 58 && slice_index bytes 16 == 58)))
    && slice_index bytes 10 == 32

-- digits at 0 to 3, and two at 5 and 8
abbrev pub has_date_digits : List ℕ → Bool
has_date_digits bytes = are_two_at bytes 0
    && (are_two_at bytes 2 && (are_two_at bytes 5 && are_two_at bytes 8))

-- two digits at 11, 14 and 17
abbrev pub has_time_digits : List ℕ → Bool
has_time_digits bytes = are_two_at bytes 11 && (are_two_at bytes 14 && are_two_at bytes 17)

-- the date that the digits spell
abbrev pub date_at : List ℕ → Date
date_at bytes = record {
  year = two_at bytes 0 * 100 + two_at bytes 2;
  month = two_at bytes 5;
  day = two_at bytes 8;
}

-- the time of day that the digits spell
abbrev pub time_at : List ℕ → TimeOfDay
time_at bytes = record {
  hour = two_at bytes 11;
  minute = two_at bytes 14;
  second = two_at bytes 17;
}

-- the date, where its digits are digits
abbrev pub read_date : List ℕ → Result Date DateFault
read_date bytes = if has_date_digits bytes then Ok (date_at bytes) else Err NotANumber

-- the time of day, where its digits are digits
abbrev pub read_time : List ℕ → Result TimeOfDay DateFault
read_time bytes = if has_time_digits bytes then Ok (time_at bytes) else Err NotANumber

-- both, or the first fault
abbrev pub both : Result Date DateFault → Result TimeOfDay DateFault
    → Result (Date × TimeOfDay) DateFault
both (Ok date) (Ok time) = Ok (date, time)
both (Ok date) (Err fault) = Err fault
both (Err fault) time = Err fault

-- the date of `2016:05:04 03:02:01`, or the first fault in this order
unfoldable pub parse_datetime : List ℕ → Result (Date × TimeOfDay) DateFault
parse_datetime bytes =
    if is_blank bytes then Err BlankDate
    else (if nat_lt (length bytes) 19 then Err DateTooShort
    else (if not (has_delimiters bytes) then Err InvalidDateDelimiter
    else both (read_date bytes) (read_time bytes)))

-- `2016-05-04 03:02:01`
unfoldable pub datetime_text : Date → TimeOfDay → List ℕ
datetime_text date time = date_text date ++ (codes " " ++ time_text time)

-- only spaces, or spaces with a colon at 3
abbrev pub is_blank_offset : List ℕ → Bool
is_blank_offset bytes = is_text bytes (codes "      ") || is_text bytes (codes "   :  ")

-- hours and minutes as minutes
abbrev pub minutes_at : List ℕ → ℕ
minutes_at bytes = two_at bytes 1 * 60 + two_at bytes 4

-- the minutes with their sign
abbrev pub signed_minutes : ℕ → ℕ → Result ℤ DateFault
signed_minutes sign minutes =
    if sign == 43 then Ok (pos minutes)
    else (if sign == 45 then Ok (pos 0 -ℤ pos minutes) else Err InvalidOffsetSign)

-- the minutes of `+hh:mm` or `-hh:mm`, or the first fault in this order
unfoldable pub parse_offset : List ℕ → Result ℤ DateFault
parse_offset bytes =
    if is_blank_offset bytes then Err BlankOffset
    else (if nat_lt (length bytes) 6 then Err OffsetTooShort
    else (if not (slice_index bytes 3 == 58) then Err InvalidOffsetDelimiter
    else (if are_two_at bytes 1 && are_two_at bytes 4
    then signed_minutes (slice_index bytes 0) (minutes_at bytes)
    else Err NotANumber)))
