-- The days of the calendar by their number (the Gregorian calendar, in all years from 0 to 9999).
use Rattle.std.specs.Prelude.{ℕ, zero, suc, ◌+◌, ◌-◌, ◌*◌, ◌/◌, ◌%◌, ◌==◌, ◌&&◌, ◌||◌, not, nat_lt, nat_le, Bool, if◌then◌else◌, Option, Some, None}
use Rattle.std.specs.Option.{option_and_then, option_map}
use Rattle.exif_text.specs.declared.date.Date.{Date}
use Rattle.exif_text.specs.declared.date.TimeOfDay.{TimeOfDay}

-- every fourth year has 366 days, but of the centuries only every fourth
abbrev pub is_leap : ℕ → Bool
is_leap year = (year % 4 == 0) && (not (year % 100 == 0) || (year % 400 == 0))

-- the days of a year
abbrev pub days_in_year : ℕ → ℕ
days_in_year year = if is_leap year then 366 else 365

-- thirty days have September, April, June and November
abbrev pub days_in_month : ℕ → ℕ → ℕ
days_in_month year month =
    if month == 2 then (if is_leap year then 29 else 28)
    else (if (month == 4) || ((month == 6) || ((month == 9) || (month == 11))) then 30 else 31)

-- whether the calendar has a day
abbrev pub is_day : Date → Bool
is_day date =
    nat_lt date.year 10000 && (nat_lt 0 date.month && (nat_lt date.month 13
    && (nat_lt 0 date.day && nat_le date.day (days_in_month date.year date.month))))

-- whether a clock has a time
abbrev pub is_time : TimeOfDay → Bool
is_time time = nat_lt time.hour 24 && (nat_lt time.minute 60 && nat_lt time.second 60)

-- the days from the year 0 to a year
unfoldable pub days_before_year : ℕ → ℕ
days_before_year zero = 0
days_before_year (suc year) = days_before_year year + days_in_year year

-- the days of the first months of a year
unfoldable pub days_before_month : ℕ → ℕ → ℕ
days_before_month year zero = 0
days_before_month year (suc months) =
    days_before_month year months + days_in_month year (suc months)

-- the number of a day: how many are before it from the year 0 on
abbrev pub day_number : Date → ℕ
day_number date =
    days_before_year date.year + days_before_month date.year (date.month - 1) + (date.day - 1)

-- the seconds from the beginning of the year 0 to a time of a day
abbrev pub seconds_of : Date → TimeOfDay → ℕ
seconds_of date time =
    day_number date * 86400 + time.hour * 3600 + time.minute * 60 + time.second

-- of so many years from a year on, the one that has the day before which there are so many, and how
-- many of its own days are before it
unfoldable pub year_from : ℕ → ℕ → ℕ → Option (ℕ × ℕ)
year_from zero year days = None
year_from (suc years) year days =
    if nat_lt days (days_in_year year) then Some (year, days)
    else year_from years (suc year) (days - days_in_year year)

-- of all years
abbrev pub year_at : ℕ → Option (ℕ × ℕ)
year_at day = year_from 10000 0 day

-- of so many months of a year after the first ones, the one that has the day before which there are
-- this many, and the day of the month
unfoldable pub month_from : ℕ → ℕ → ℕ → ℕ → Option (ℕ × ℕ)
month_from zero year past days = None
month_from (suc months) year past days =
    if nat_lt days (days_in_month year (suc past)) then Some (suc past, suc days)
    else month_from months year (suc past) (days - days_in_month year (suc past))

-- of all months
abbrev pub month_at : ℕ → ℕ → Option (ℕ × ℕ)
month_at year day = month_from 12 year 0 day

-- a day of a year
abbrev pub date_in : ℕ → ℕ × ℕ → Date
date_in year (month, day) = record { year = year; month = month; day = day }

-- the day of a number
abbrev pub date_at : ℕ → Option Date
date_at number =
    option_and_then (λ found. option_map (date_in found.0) (month_at found.0 found.1))
    (year_at number)

-- the time of a day after so many seconds
abbrev pub time_at : ℕ → TimeOfDay
time_at second = record {
  hour = second / 3600;
  minute = second / 60 % 60;
  second = second % 60;
}

-- the day and the time after so many seconds from the beginning of the year 0
abbrev pub moment_at : ℕ → Option (Date × TimeOfDay)
moment_at seconds = option_map (λ date. (date, time_at (seconds % 86400))) (date_at (seconds / 86400))
