-- When a picture was taken.
use Rattle.std.specs.Prelude.{◌≡◌, ℕ, List, Option, Some, Ok}
use Rattle.exif_datetime.specs.Dates.{calendar_date, date_of, read_date, time_of_day}
use Rattle.exif_datetime.specs.declared.datetime.DateTime.{DateTime}

-- there is a text, and it spells this date and this time of day (Exif 2.32, 4.6.5,
-- DateTimeOriginal)
abbrev pub IsSpelled : Option (List ℕ) → DateTime → Type 0
IsSpelled text taken =
    (spelled : List ℕ) × (text ≡ Some spelled)
    × (read_date spelled ≡ Ok (date_of (calendar_date taken, time_of_day taken)))
