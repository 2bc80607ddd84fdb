-- When a picture was taken, as file systems count time: from 1970-01-01T00:00:00Z on (POSIX.1-2017,
-- Base Definitions, 4.16, seconds since the Epoch).
use Rattle.std.specs.Prelude.{ℕ, ◌*◌, ◌-◌, nat_le, if◌then◌else◌, List, Option, Some, None, option_and_then}
use Rattle.exif_types.specs.declared.field.Field.{Field}
use Rattle.exif_geotag.specs.Located.{time_in}

-- the milliseconds from 1970 to a time that counts from the start of the year 0, 719528 days
-- earlier; none before 1970
abbrev pub since_1970 : ℕ → Option ℕ
since_1970 time =
    if nat_le (719528 * 86400000) time then Some (time - 719528 * 86400000) else None

-- the milliseconds from 1970 to when a picture was taken, in a zone where it names none
abbrev pub unix_time_in : List Field → List ℕ → Option ℕ
unix_time_in fields zone = option_and_then since_1970 (time_in fields zone)
