-- A time of UTC as its day and its time of day.
use Rattle.std.specs.Prelude.{ℕ, ◌/◌, ◌%◌, List, ◌++◌, codes, Option}
use Rattle.std.specs.Option.{option_map}
use Rattle.exif_text.specs.Clock.{date_text, time_text}
use Rattle.exif_text.specs.declared.date.Date.{Date}
use Rattle.exif_text.specs.declared.date.TimeOfDay.{TimeOfDay}
use Rattle.exif_datetime.specs.Calendar.{moment_at as date_and_time_at}
use Rattle.exif_geotag.specs.declared.moment.Moment.{Moment}

-- a date and a time of day with thousandths of a second
abbrev pub with_thousandths : ℕ → Date × TimeOfDay → Moment
with_thousandths millisecond (date, time) =
    record { date = date; time = time; millisecond = millisecond }

-- the day and the time of day of a time
abbrev pub moment_at : ℕ → Option Moment
moment_at time = option_map (with_thousandths (time % 1000)) (date_and_time_at (time / 1000))

-- the text of a time of UTC (ISO 8601-1, 5.4)
abbrev pub moment_text : Moment → List ℕ
moment_text moment =
    date_text moment.date ++ (codes "T" ++ (time_text moment.time ++ codes "Z"))
