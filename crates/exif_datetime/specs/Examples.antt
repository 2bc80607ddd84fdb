-- Worked examples: days by their number, as calendars of other programs have them.
use Rattle.std.specs.Prelude.{◌≡◌, refl, ℕ, ◌+◌, ◌*◌, true, false, Option, Some, None}
use Rattle.exif_text.specs.declared.date.Date.{Date}
use Rattle.exif_text.specs.declared.date.TimeOfDay.{TimeOfDay}
use Rattle.exif_datetime.specs.Calendar.{date_at, day_number, days_before_month, days_before_year, is_day, moment_at, month_from, seconds_of, year_from}

-- a day
abbrev pub day : ℕ → ℕ → ℕ → Date
day year month number = record { year = year; month = month; day = number }

-- a time of day
abbrev pub time : ℕ → ℕ → ℕ → TimeOfDay
time hour minute second = record { hour = hour; minute = minute; second = second }

-- the year 0 is a leap year (ISO 8601-1, 3.2.1)
pub the_year_1 : day_number (day 1 1 1) ≡ 366
unfolding days_before_month days_before_year
the_year_1 = refl

pub a_leap_day : day_number (day 4 2 29) ≡ 1520
unfolding days_before_month days_before_year
a_leap_day = refl

pub day_1520 : date_at 1520 ≡ Some (day 4 2 29)
unfolding year_from month_from
day_1520 = refl

-- of the centuries only every fourth has a leap day
pub a_century : is_day (day 1900 2 29) ≡ false
a_century = refl

pub a_fourth_century : is_day (day 2000 2 29) ≡ true
a_fourth_century = refl

pub the_31st_of_april : is_day (day 2024 4 31) ≡ false
the_31st_of_april = refl

-- 719528 days are before 1970-01-01
pub the_epoch : seconds_of (day 1970 1 1) (time 1 2 3) ≡ 719528 * 86400 + 3723
unfolding days_before_month days_before_year
the_epoch = refl

pub a_second_of_the_year_1 : moment_at (366 * 86400 + 3723) ≡ Some (day 1 1 1, time 1 2 3)
unfolding year_from month_from
a_second_of_the_year_1 = refl

-- the first day behind those of four digits is none
pub the_year_10000 : is_day (day 10000 1 1) ≡ false
the_year_10000 = refl
