use Rattle.std.proofs.Common.{◌<◌, ◌≤◌, ◌+◌, ◌-◌, ◌∙◌, sym, subst, ap}
use Rattle.exif_datetime.specs.Calendar.{days_in_year, year_from}
use Rattle.exif_datetime.proofs.CalendarSteps.{no_year, year_found, year_passed}
use Rattle.exif_datetime.proofs.calendar.year_at.Goals as goal

pub returns-then-rest-days : goal.returns-then-rest-days
returns-then-rest-days c =
    let here : c.loop-year.rest < days_in_year c.loop-year.year = subst (λ n. c.loop-year.rest < n) c.days_in_year-days.ensures.days c.if-rest-days.true in
    sym (year_found c.loop-year.year c.loop-year.rest c.loop-year-test.true here) ∙ c.loop-year.invariant

pub loop-year-preserved : goal.loop-year-preserved
loop-year-preserved c =
    let later : days_in_year c.loop-year.year ≤ c.loop-year.rest = subst (λ n. n ≤ c.loop-year.rest) c.days_in_year-days.ensures.days c.if-rest-days.false in
    ap (λ n. year_from (10000 - (c.loop-year.year + 1)) (c.loop-year.year + 1) (c.loop-year.rest - n)) c.days_in_year-days.ensures.days
    ∙ (year_passed c.loop-year.year c.loop-year.rest c.loop-year-test.true later ∙ c.loop-year.invariant)

pub returns : goal.returns
returns c = no_year c.loop-year.year c.loop-year.rest c.loop-year-test.false ∙ c.loop-year.invariant
