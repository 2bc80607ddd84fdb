use Rattle.std.proofs.Common.{arith, sym}
use Rattle.exif_datetime.proofs.CalendarSteps.{month_more, no_months}
use Rattle.exif_datetime.proofs.calendar.days_before_month.Goals as goal

pub loop-past-init : goal.loop-past-init
loop-past-init c = record { days = sym (no_months c.args.year); few = omega arith }

pub loop-past-preserved : goal.loop-past-preserved
loop-past-preserved c =
    let more = month_more c.args.year c.loop-past.past in
    let was = c.loop-past.invariant.days in
    let one = c.days_in_month-days.ensures.days in
    let low = c.loop-past.invariant.few in
    let few = c.days_in_month-days.ensures.few in
    record { days = omega (arith, more, was, one); few = omega (arith, low, few) }
