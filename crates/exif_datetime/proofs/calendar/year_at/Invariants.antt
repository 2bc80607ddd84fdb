use Rattle.std.proofs.Common.{◌≡◌, ◌-◌}
use Rattle.exif_datetime.specs.Calendar.{year_at, year_from}
use Rattle.exif_datetime.proofs.calendar.year_at.Given as goal

-- what is left of the day makes the same of the years that are left
abbrev pub invariant-loop-year : goal.invariant-loop-year
invariant-loop-year l = year_from (10000 - l.year) l.year l.rest ≡ year_at l.day
