use Rattle.std.proofs.Common.{◌≡◌, ◌-◌}
use Rattle.exif_datetime.specs.Calendar.{month_at, month_from}
use Rattle.exif_datetime.proofs.calendar.month_at.Given as goal

abbrev pub invariant-loop-past : goal.invariant-loop-past
invariant-loop-past l = month_from (12 - l.past) l.year l.past l.rest ≡ month_at l.year l.day
