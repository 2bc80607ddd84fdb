-- Years and months counted one after the other.
use Rattle.std.proofs.Common.{◌≡◌, ◌<◌, ◌≤◌, ◌+◌, ◌-◌, ◌*◌, ◌/◌, ◌∙◌, ℕ, zero, suc, true, false, Some, None, if◌then◌else◌, refl, sym, ap, arith}
use Rattle.std.specs.Prelude.{nat_lt}
use Rattle.std.proofs.lemmas.Bool.Decides.{nat_tests}
use Rattle.exif_datetime.specs.Calendar.{days_before_month, days_before_year, days_in_month, days_in_year, month_from, year_from}

-- the days before a year by a formula
abbrev pub days_by_formula : ℕ → ℕ
days_by_formula year = 365 * year + (year + 3) / 4 - (year + 99) / 100 + (year + 399) / 400

-- a year more
formula_more : (year : ℕ) → days_by_formula (suc year) ≡ days_by_formula year + days_in_year year
formula_more year = grind (arith, nat_tests)

-- the formula gives the days before a year
pub formula_is : (year : ℕ) → days_by_formula year ≡ days_before_year year
unfolding days_before_year
formula_is zero = refl
formula_is (suc year) = formula_more year ∙ ap (λ days. days + days_in_year year) (formula_is year)

pub no_months : (year : ℕ) → days_before_month year 0 ≡ 0
unfolding days_before_month
no_months year = refl

pub month_more : (year months : ℕ) → days_before_month year (months + 1) ≡ days_before_month year months + days_in_month year (months + 1)
unfolding days_before_month
month_more year months = let next : months + 1 ≡ suc months = omega arith in rw next refl

-- a day of this year
pub year_here : (years year days : ℕ) → days < days_in_year year → year_from (suc years) year days ≡ Some (year, days)
unfolding year_from
year_here years year days h =
    let yes : nat_lt days (days_in_year year) ≡ true = grind (arith, nat_tests) in
    ap (λ b. if b then Some (year, days) else year_from years (suc year) (days - days_in_year year)) yes

-- a day of a later one
pub year_later : (years year days : ℕ) → days_in_year year ≤ days → year_from (suc years) year days ≡ year_from years (suc year) (days - days_in_year year)
unfolding year_from
year_later years year days h =
    let no : nat_lt days (days_in_year year) ≡ false = grind (arith, nat_tests) in
    ap (λ b. if b then Some (year, days) else year_from years (suc year) (days - days_in_year year)) no

pub year_found : (year days : ℕ) → year < 10000 → days < days_in_year year → year_from (10000 - year) year days ≡ Some (year, days)
year_found year days h here =
    let left : 10000 - year ≡ suc (9999 - year) = omega arith in
    ap (λ n. year_from n year days) left ∙ year_here (9999 - year) year days here

pub year_passed : (year days : ℕ) → year < 10000 → days_in_year year ≤ days → year_from (10000 - (year + 1)) (year + 1) (days - days_in_year year) ≡ year_from (10000 - year) year days
year_passed year days h later =
    let left : 10000 - year ≡ suc (9999 - year) = omega arith in
    let less : 10000 - (year + 1) ≡ 9999 - year = omega arith in
    let next : year + 1 ≡ suc year = omega arith in
    sym (ap (λ n. year_from n year days) left ∙ (year_later (9999 - year) year days later
    ∙ (ap (λ n. year_from n (suc year) (days - days_in_year year)) (sym less) ∙ ap (λ y. year_from (10000 - (year + 1)) y (days - days_in_year year)) (sym next))))

pub no_year : (year days : ℕ) → 10000 ≤ year → None ≡ year_from (10000 - year) year days
unfolding year_from
no_year year days h =
    let left : 10000 - year ≡ 0 = omega arith in
    sym (ap (λ n. year_from n year days) left)

-- the same of months
pub month_here : (months year past days : ℕ) → days < days_in_month year (suc past) → month_from (suc months) year past days ≡ Some (suc past, suc days)
unfolding month_from
month_here months year past days h =
    let yes : nat_lt days (days_in_month year (suc past)) ≡ true = grind (arith, nat_tests) in
    ap (λ b. if b then Some (suc past, suc days) else month_from months year (suc past) (days - days_in_month year (suc past))) yes

pub month_later : (months year past days : ℕ) → days_in_month year (suc past) ≤ days → month_from (suc months) year past days ≡ month_from months year (suc past) (days - days_in_month year (suc past))
unfolding month_from
month_later months year past days h =
    let no : nat_lt days (days_in_month year (suc past)) ≡ false = grind (arith, nat_tests) in
    ap (λ b. if b then Some (suc past, suc days) else month_from months year (suc past) (days - days_in_month year (suc past))) no

pub month_found : (year past days : ℕ) → past < 12 → days < days_in_month year (past + 1) → month_from (12 - past) year past days ≡ Some (past + 1, days + 1)
month_found year past days h here =
    let left : 12 - past ≡ suc (11 - past) = omega arith in
    let next : past + 1 ≡ suc past = omega arith in
    let day : days + 1 ≡ suc days = omega arith in
    let here' : days < days_in_month year (suc past) = rw (← next) here in
    ap (λ n. month_from n year past days) left ∙ (month_here (11 - past) year past days here'
    ∙ (ap (λ m. Some (m, suc days)) (sym next) ∙ ap (λ d. Some (past + 1, d)) (sym day)))

pub month_passed : (year past days : ℕ) → past < 12 → days_in_month year (past + 1) ≤ days → month_from (12 - (past + 1)) year (past + 1) (days - days_in_month year (past + 1)) ≡ month_from (12 - past) year past days
month_passed year past days h later =
    let left : 12 - past ≡ suc (11 - past) = omega arith in
    let less : 12 - (past + 1) ≡ 11 - past = omega arith in
    let next : past + 1 ≡ suc past = omega arith in
    let later' : days_in_month year (suc past) ≤ days = rw (← next) later in
    sym (ap (λ n. month_from n year past days) left ∙ (month_later (11 - past) year past days later'
    ∙ (ap (λ n. month_from n year (suc past) (days - days_in_month year (suc past))) (sym less)
    ∙ ap (λ p. month_from (12 - (past + 1)) year p (days - days_in_month year p)) (sym next))))

pub no_month : (year past days : ℕ) → 12 ≤ past → None ≡ month_from (12 - past) year past days
unfolding month_from
no_month year past days h =
    let left : 12 - past ≡ 0 = omega arith in
    sym (ap (λ n. month_from n year past days) left)
