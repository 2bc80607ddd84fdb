-- Names of files that say a day.
use Rattle.std.specs.Prelude.{ℕ, ◌+◌, ◌==◌, ◌&&◌, ◌||◌, nat_le, not, Bool, true, false, List, [], ◌∷◌, length, take, drop, slice_index, Option, Some, if◌then◌else◌}
use Rattle.std.specs.Char.{is_ascii_digit}
use Rattle.std.specs.Io.Iter.{u64_saturate}
use Rattle.exif_datetime.specs.Calendar.{is_day}
use Rattle.exif_datetime.specs.Numbers.{number_below}
use Rattle.exif_decisions.specs.Paths.{name_of}

-- whether the calendar has a day (ISO 8601), in a year that has photographs
abbrev pub is_known_day : Option ℕ → Option ℕ → Option ℕ → Bool
is_known_day (Some year) (Some month) (Some day) =
    nat_le 1826 year && is_day (record { year = year; month = month; day = day })
is_known_day year month day = false

-- whether digits spell one
abbrev pub is_calendar_day : List ℕ → List ℕ → List ℕ → Bool
is_calendar_day year month day =
    is_known_day (number_below 2100 year) (number_below 13 month) (number_below 32 day)

-- whether bytes begin with the eight digits of a day
abbrev pub begins_joined : List ℕ → Bool
begins_joined bytes =
    nat_le 8 (length bytes)
    && is_calendar_day (take 4 bytes) (take 2 (drop 4 bytes)) (take 2 (drop 6 bytes))

-- what stands between year, month and day: a hyphen, a low line or a full stop
abbrev pub is_mark : ℕ → Bool
is_mark byte = (byte == 45) || ((byte == 95) || (byte == 46))

-- whether bytes begin with a day whose year, month and day have one of these between them
abbrev pub begins_marked : List ℕ → Bool
begins_marked bytes =
    nat_le 10 (length bytes)
    && (is_mark (slice_index bytes 4)
    && ((slice_index bytes 7 == slice_index bytes 4)
    && is_calendar_day (take 4 bytes) (take 2 (drop 5 bytes)) (take 2 (drop 8 bytes))))

-- whether a name says a day from here on, where a digit comes before it or none
abbrev pub names_day_from : Bool → List ℕ → Bool
names_day_from follows [] = false
names_day_from follows (byte ∷ bytes) =
    if not follows && (begins_joined (byte ∷ bytes) || begins_marked (byte ∷ bytes)) then true
    else names_day_from (is_ascii_digit byte) bytes

-- whether a name says a day
abbrev pub names_day : List ℕ → Bool
names_day name = names_day_from false name

-- how many of these files have a name that does, behind so many
abbrev pub dated_behind : ℕ → List (List ℕ) → ℕ
dated_behind count [] = count
dated_behind count (path ∷ paths) =
    dated_behind (if names_day (name_of path) then u64_saturate (count + 1) else count) paths

-- how many of these files have a name that does
abbrev pub dated_count : List (List ℕ) → ℕ
dated_count paths = dated_behind 0 paths
