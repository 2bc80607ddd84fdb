-- Times (ISO 8601-1, 5.4; XML Schema Part 2, 3.2.7), as milliseconds of UTC.
use Rattle.std.specs.Prelude.{ℕ, ◌+◌, ◌*◌, ◌==◌, ◌&&◌, ◌||◌, nat_lt, Bool, true, if◌then◌else◌, List, [], ◌∷◌, length, drop, take, slice_index, Option, Some, None}
use Rattle.std.specs.Char.{is_ascii_digit}
use Rattle.std.specs.Option.{option_and_then, option_map}
use Rattle.exif_locations.specs.XmpScans.{run}
use Rattle.exif_text.specs.Dates.{date_at, has_date_digits, has_time_digits, time_at}
use Rattle.exif_text.specs.Digits.{are_two_at, two_at}
use Rattle.exif_datetime.specs.Calendar.{is_day, is_time, seconds_of}
use Rattle.exif_geotag.specs.Numbers.{below, fraction_of}

-- whether a text has the marks between the numbers: two of a date, `T` or a space, `:` and `:`
abbrev pub is_split : ℕ → List ℕ → Bool
is_split mark text =
    (slice_index text 4 == mark) && ((slice_index text 7 == mark)
    && (((slice_index text 10 == 84)
    || ((slice_index text 10 == 116) || (slice_index text 10 == 32)))
    && ((slice_index text 13 == 58) && (slice_index text 16 == 58))))

-- how many bytes at the front are digits
abbrev pub digits_len : List ℕ → ℕ
digits_len text = run is_ascii_digit text

-- how many bytes the fraction of a second has: a point and digits, or none
abbrev pub fraction_len : List ℕ → ℕ
fraction_len rest =
    if (slice_index rest 0 == 46) && is_ascii_digit (slice_index rest 1)
    then 1 + digits_len (drop 1 rest) else 0

-- the thousandths that a fraction of a second has
abbrev pub thousandths_of : List ℕ → Option ℕ
thousandths_of [] = Some 0
thousandths_of (point ∷ digits) = fraction_of 100 digits 0

-- whether a text is `+hh:mm` or `-hh:mm`, whatever its sign, with hours and minutes of a clock
abbrev pub is_zone : List ℕ → Bool
is_zone zone =
    (length zone == 6) && ((slice_index zone 3 == 58)
    && ((are_two_at zone 1 && are_two_at zone 4)
    && (nat_lt (two_at zone 1) 24 && nat_lt (two_at zone 4) 60)))

-- the milliseconds by which a zone is off UTC
unfoldable pub zone_of : List ℕ → Option ℕ
zone_of zone =
    if is_zone zone then Some ((two_at zone 1 * 60 + two_at zone 4) * 60000) else None

-- whether a text is an offset from UTC
abbrev pub is_offset : List ℕ → Bool
is_offset text =
    if (slice_index text 0 == 43) || (slice_index text 0 == 45) then is_zone text
    else (if ((slice_index text 0 == 90) || (slice_index text 0 == 122)) && (length text == 1)
    then true else length text == 0)

-- a time of a zone, in UTC; without a zone it is one of UTC
abbrev pub zoned : ℕ → List ℕ → Option ℕ
zoned time zone =
    if slice_index zone 0 == 43 then option_and_then (below time) (zone_of zone)
    else (if slice_index zone 0 == 45 then option_map (λ offset. time + offset) (zone_of zone)
    else (if ((slice_index zone 0 == 90) || (slice_index zone 0 == 122)) && (length zone == 1)
    then Some time else (if length zone == 0 then Some time else None)))

-- whether the digits at the fixed positions are a day of the calendar and a time of a clock
abbrev pub is_stated : List ℕ → Bool
is_stated text =
    (has_date_digits text && has_time_digits text)
    && (is_day (date_at text) && is_time (time_at text))

-- the milliseconds from the start of the year 0 to them
unfoldable pub milliseconds_of : List ℕ → Option ℕ
milliseconds_of text =
    if is_stated text then Some (seconds_of (date_at text) (time_at text) * 1000) else None

-- the milliseconds of a date with such marks and a clock, from the start of the year 0
abbrev pub date_time_of : ℕ → List ℕ → Option ℕ
date_time_of mark text =
    if nat_lt (length text) 19 then None
    else (if is_split mark text then milliseconds_of text else None)

-- what follows the seconds: a fraction, and a zone
unfoldable pub ended : List ℕ → ℕ → Option ℕ
ended rest whole =
    option_and_then (λ part. zoned (whole + part) (drop (fraction_len rest) rest))
    (thousandths_of (take (fraction_len rest) rest))

-- the time that a text spells
unfoldable pub time_of : List ℕ → Option ℕ
time_of text = option_and_then (ended (drop 19 text)) (date_time_of 45 text)

-- the time of a date of Exif data, with the digits of a fraction of a second and an offset from UTC
-- (Exif 2.32, 4.6.4, DateTime, and 4.6.5, SubSecTime and OffsetTime)
unfoldable pub exif_time_of : List ℕ → List ℕ → List ℕ → Option ℕ
exif_time_of date subsec offset =
    option_and_then (λ whole. option_and_then (λ part. zoned (whole + part) offset)
    (fraction_of 100 (take (digits_len subsec) subsec) 0)) (date_time_of 58 date)
