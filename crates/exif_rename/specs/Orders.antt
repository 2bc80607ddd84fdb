-- The order in which pictures get the numbers of one name.
use Rattle.std.specs.Prelude.{Option, None, Some}
use Rattle.std.specs.Cmp.Lexicographic.{slice_cmp}
use Rattle.std.specs.Ordering.{nat_cmp, ordering_then}
use Rattle.std.specs.declared.cmp.Ordering.{Ordering}
use Rattle.std.specs.declared.cmp.Ordering.TheVariants.{Less, Equal, Greater}
use Rattle.exif_rename.specs.declared.naming.Taken.{Taken}
use Rattle.exif_rename.specs.declared.order.Moment.{Moment}
use Rattle.exif_rename.specs.declared.order.Shot.{Shot}

abbrev pub days_cmp : Taken → Taken → Ordering
days_cmp a b = ordering_then (ordering_then (nat_cmp a.year b.year) (nat_cmp a.month b.month)) (nat_cmp a.day b.day)

abbrev pub seconds_cmp : Taken → Taken → Ordering
seconds_cmp a b = ordering_then (ordering_then (nat_cmp a.hour b.hour) (nat_cmp a.minute b.minute)) (nat_cmp a.second b.second)

-- the earlier moment comes first
abbrev pub moment_cmp : Moment → Moment → Ordering
moment_cmp a b =
    ordering_then (ordering_then (days_cmp a.taken b.taken) (seconds_cmp a.taken b.taken)) (nat_cmp a.nanosecond b.nanosecond)

-- none comes last
abbrev pub dated_cmp : Option Moment → Option Moment → Ordering
dated_cmp (Some a) (Some b) = moment_cmp a b
dated_cmp (Some a) None = Less
dated_cmp None (Some b) = Greater
dated_cmp None None = Equal

-- by date, and then by the bytes of the path
abbrev pub shot_cmp : Shot → Shot → Ordering
shot_cmp a b = ordering_then (dated_cmp a.moment b.moment) (slice_cmp nat_cmp a.path.now b.path.now)
