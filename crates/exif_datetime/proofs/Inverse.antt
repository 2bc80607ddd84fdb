-- The day of a number, and the number of a day.
use Rattle.std.proofs.Common.{◌≡◌, ◌<◌, ◌≤◌, ◌+◌, ◌-◌, ◌*◌, ◌/◌, ◌%◌, ◌^◌, ◌∙◌, ℕ, zero, suc, true, false, Bool, Option, Some, None, if◌then◌else◌, refl, sym, ap, subst, arith}
use Rattle.std.specs.Prelude.{nat_lt, not}
use Rattle.std.specs.Option.{option_and_then, option_map}
use Rattle.std.proofs.lemmas.Bool.Decides.{nat_tests}
use Rattle.exif_text.specs.declared.date.Date.{Date}
use Rattle.exif_text.specs.declared.date.TimeOfDay.{TimeOfDay}
use Rattle.exif_datetime.specs.Calendar.{date_at, date_in, day_number, days_before_month, days_before_year, days_in_month, days_in_year, is_day, is_leap, is_time, moment_at, month_at, month_from, seconds_of, time_at, year_at, year_from}
use Rattle.exif_datetime.specs.Shift.{moved, moved_seconds, opposite}
use Rattle.exif_datetime.specs.declared.shift.ClockShift.{ClockShift}
use Rattle.exif_datetime.proofs.CalendarSteps.{month_here, month_later, year_here, year_later}

years_next : (y : ℕ) → days_before_year (suc y) ≡ days_before_year y + days_in_year y
unfolding days_before_year
years_next y = refl

years_rise : (k y : ℕ) → days_before_year y ≤ days_before_year (k + y)
years_rise zero y = let e : 0 + y ≡ y = omega arith in rw e (omega arith)
years_rise (suc k) y =
    let e : suc k + y ≡ suc (k + y) = omega arith in
    let low = years_rise k y in
    rw e (omega (arith, years_next (k + y), low))

-- the year of a day
year_reached : (k left y n d : ℕ) → k < left → d < days_in_year (k + y) → n + days_before_year y ≡ days_before_year (k + y) + d
    → year_from left y n ≡ Some (k + y, d)
year_reached zero zero y n d h g e = absurd (omega (arith, h))
year_reached (suc k) zero y n d h g e = absurd (omega (arith, h))
year_reached zero (suc left) y n d h g e =
    let same : 0 + y ≡ y = omega arith in
    let g' : d < days_in_year y = rw same at g in
    let e' : n + days_before_year y ≡ days_before_year y + d = rw same at e in
    let is : n ≡ d = omega (arith, e') in
    rw (same, is) (year_here left y d g')
year_reached (suc k) (suc left) y n d h g e =
    let same : suc k + y ≡ k + suc y = omega arith in
    let g' : d < days_in_year (k + suc y) = rw same at g in
    let e' : n + days_before_year y ≡ days_before_year (k + suc y) + d = rw same at e in
    let rise = years_rise k (suc y) in
    let next = years_next y in
    let later : days_in_year y ≤ n = omega (arith, e', rise, next) in
    let rest : (n - days_in_year y) + days_before_year (suc y) ≡ days_before_year (k + suc y) + d = omega (arith, e', next, later) in
    rw same (year_later left y n later ∙ year_reached k left (suc y) (n - days_in_year y) d (omega (arith, h)) g' rest)

months_next : (y m : ℕ) → days_before_month y (suc m) ≡ days_before_month y m + days_in_month y (suc m)
unfolding days_before_month
months_next y m = refl

no_month_before : (y : ℕ) → days_before_month y 0 ≡ 0
unfolding days_before_month
no_month_before y = refl

no_year_before : days_before_year 0 ≡ 0
unfolding days_before_year
no_year_before = refl

months_rise : (k y m : ℕ) → days_before_month y m ≤ days_before_month y (k + m)
months_rise zero y m = let e : 0 + m ≡ m = omega arith in rw e (omega arith)
months_rise (suc k) y m =
    let e : suc k + m ≡ suc (k + m) = omega arith in
    let low = months_rise k y m in
    rw e (omega (arith, months_next y (k + m), low))

-- the month of a day of a year
month_reached : (k left y m n d : ℕ) → k < left → d < days_in_month y (suc (k + m)) → n + days_before_month y m ≡ days_before_month y (k + m) + d
    → month_from left y m n ≡ Some (suc (k + m), suc d)
month_reached zero zero y m n d h g e = absurd (omega (arith, h))
month_reached (suc k) zero y m n d h g e = absurd (omega (arith, h))
month_reached zero (suc left) y m n d h g e =
    let same : 0 + m ≡ m = omega arith in
    let g' : d < days_in_month y (suc m) = rw same at g in
    let e' : n + days_before_month y m ≡ days_before_month y m + d = rw same at e in
    let is : n ≡ d = omega (arith, e') in
    rw (same, is) (month_here left y m d g')
month_reached (suc k) (suc left) y m n d h g e =
    let same : suc k + m ≡ k + suc m = omega arith in
    let g' : d < days_in_month y (suc (k + suc m)) = rw same at g in
    let e' : n + days_before_month y m ≡ days_before_month y (k + suc m) + d = rw same at e in
    let rise = months_rise k y (suc m) in
    let next = months_next y m in
    let later : days_in_month y (suc m) ≤ n = omega (arith, e', rise, next) in
    let rest : (n - days_in_month y (suc m)) + days_before_month y (suc m) ≡ days_before_month y (k + suc m) + d = omega (arith, e', next, later) in
    rw same (month_later left y m n later ∙ month_reached k left y (suc m) (n - days_in_month y (suc m)) d (omega (arith, h)) g' rest)

-- the months of a year are its days
year_months : (y : ℕ) → days_before_month y 12 ≡ days_in_year y
unfolding days_before_month
year_months y = elim (is_leap y) as (λ b. 0 + 31 + (if b then 29 else 28) + 31 + 30 + 31 + 30 + 31 + 31 + 30 + 31 + 30 + 31 ≡ (if b then 366 else 365)) [ true ↦ refl | false ↦ refl ]

-- a day of the calendar is the one of its number
pub date_back : (date : Date) → is_day date ≡ true → (0 < date.month) × (date_at (day_number date) ≡ Some date)
date_back date is =
    let y = date.year in
    let m = date.month in
    let d = date.day in
    let years : y < 10000 = grind (arith, nat_tests, is) in
    let some : 0 < m = grind (arith, nat_tests, is) in
    let few : m < 13 = grind (arith, nat_tests, is) in
    let first : 0 < d = grind (arith, nat_tests, is) in
    let last : d ≤ days_in_month y m = grind (arith, nat_tests, is) in
    let p = m - 1 in
    let r = days_before_month y p + (d - 1) in
    let next : suc (p + 0) ≡ m = omega arith in
    let here : d - 1 < days_in_month y (suc (p + 0)) = rw next (omega (arith, first, last)) in
    let month : month_from 12 y 0 r ≡ Some (suc (p + 0), suc (d - 1)) =
    let none = no_month_before y in
    let same : p + 0 ≡ p = omega arith in
    month_reached p 12 y 0 r (d - 1) (omega (arith, few, some)) here (rw same (omega (arith, none))) in
    let whole = year_months y in
    let grown = months_next y p in
    let rise = months_rise (12 - suc p) y (suc p) in
    let twelve : (12 - suc p) + suc p ≡ 12 = omega (arith, few, some) in
    let rise' : days_before_month y (suc p) ≤ days_before_month y 12 = rw twelve at rise in
    let below : r < days_in_year (y + 0) =
    let same : y + 0 ≡ y = omega arith in
    let that : suc p ≡ m = omega (arith, some) in
    let same_days : days_in_month y (suc p) ≡ days_in_month y m = ap (days_in_month y) that in
    rw same (omega (arith, whole, grown, same_days, rise', first, last)) in
    let year : year_from 10000 0 (days_before_year y + days_before_month y p + (d - 1)) ≡ Some (y + 0, r) =
    let none = no_year_before in
    let same : y + 0 ≡ y = omega arith in
    year_reached y 10000 0 (days_before_year y + days_before_month y p + (d - 1)) r years below (rw same (omega (arith, none))) in
    let year' : year_at (day_number date) ≡ Some (y, r) = let same : y + 0 ≡ y = omega arith in year ∙ ap (λ z. Some (z, r)) same in
    let month' : month_at y r ≡ Some (m, d) = let day : suc (d - 1) ≡ d = omega (arith, first) in month ∙ (ap (λ z. Some (z, suc (d - 1))) next ∙ ap (λ z. Some (m, z)) day) in
    (some, ap (option_and_then (λ found. option_map (date_in found.0) (month_at found.0 found.1))) year' ∙ ap (option_map (date_in y)) month')

-- a time is the one of its seconds
time_back : (n : ℕ) (time : TimeOfDay) → is_time time ≡ true
    → ((n * 86400 + time.hour * 3600 + time.minute * 60 + time.second) / 86400 ≡ n)
    × (time_at ((n * 86400 + time.hour * 3600 + time.minute * 60 + time.second) % 86400) ≡ time)
time_back n time is =
    let hours : time.hour < 24 = grind (arith, nat_tests, is) in
    let minutes : time.minute < 60 = grind (arith, nat_tests, is) in
    let seconds : time.second < 60 = grind (arith, nat_tests, is) in
    let all = n * 86400 + time.hour * 3600 + time.minute * 60 + time.second in
    let hour : all % 86400 / 3600 ≡ time.hour = omega (arith, hours, minutes, seconds) in
    let minute : all % 86400 / 60 % 60 ≡ time.minute = omega (arith, hours, minutes, seconds) in
    let second : all % 86400 % 60 ≡ time.second = omega (arith, hours, minutes, seconds) in (
      omega (arith, hours, minutes, seconds),
      ap (λ (h : ℕ). record { hour = h; minute = all % 86400 / 60 % 60; second = all % 86400 % 60 }) hour
          ∙ (ap (λ (m : ℕ). record { hour = time.hour; minute = m; second = all % 86400 % 60 }) minute
          ∙ ap (λ (s : ℕ). record { hour = time.hour; minute = time.minute; second = s }) second),
    )

-- a date and a time are those of their seconds
pub moment_back : (date : Date) (time : TimeOfDay) → is_day date ≡ true → is_time time ≡ true
    → moment_at (seconds_of date time) ≡ Some (date, time)
moment_back date time day clock =
    let d = date_back date day in
    let t = time_back (day_number date) time clock in
    let all = seconds_of date time in
    ap (λ (n : ℕ). option_map (λ (found : Date). (found, time_at (all % 86400))) (date_at n)) t.0
    ∙ (ap (option_map (λ (found : Date). (found, time_at (seconds_of date time % 86400)))) d.1 ∙ ap (λ (u : TimeOfDay). Some (date, u)) t.1)

-- one pair
some_pair : (a b c d : ℕ) → ◌≡◌ {A = Option (ℕ × ℕ)} (Some (a, b)) (Some (c, d)) → (a ≡ c) × (b ≡ d)
some_pair a b c d e =
    let first : Option (ℕ × ℕ) → ℕ = λ o. elim o [ None ↦ 0 | Some p ↦ p.0 ] in
    let second : Option (ℕ × ℕ) → ℕ = λ o. elim o [ None ↦ 0 | Some p ↦ p.1 ] in
    (ap first e, ap second e)

-- the number of a day that was found
pub year_sum : (left y n found rest : ℕ) → year_from left y n ≡ Some (found, rest) → n + days_before_year y ≡ days_before_year found + rest
unfolding year_from
year_sum zero y n found rest e = absurd (none_some e)
  where
    none_some : ◌≡◌ {A = Option (ℕ × ℕ)} None (Some (found, rest)) → ⊥
    none_some e = cc
year_sum (suc left) y n found rest e = by_test (nat_lt n (days_in_year y)) refl (year_sum left (suc y) (n - days_in_year y) found rest) e
  where
    by_test : (b : Bool) → nat_lt n (days_in_year y) ≡ b
        → (year_from left (suc y) (n - days_in_year y) ≡ Some (found, rest) → (n - days_in_year y) + days_before_year (suc y) ≡ days_before_year found + rest)
        → (if b then Some (y, n) else year_from left (suc y) (n - days_in_year y)) ≡ Some (found, rest)
        → n + days_before_year y ≡ days_before_year found + rest
    by_test true t more e =
        let both = some_pair y n found rest e in
        rw (both.0, both.1) (omega arith)
    by_test false t more e =
        let later : days_in_year y ≤ n = grind (arith, nat_tests, t) in
        let sum = more e in
        let next = years_next y in
        omega (arith, sum, next, later)

-- the day of a year that was found
pub month_sum : (left y m n found day : ℕ) → month_from left y m n ≡ Some (found, day)
    → (0 < found) × ((0 < day) × (n + days_before_month y m ≡ days_before_month y (found - 1) + (day - 1)))
unfolding month_from
month_sum zero y m n found day e = absurd (none_some e)
  where
    none_some : ◌≡◌ {A = Option (ℕ × ℕ)} None (Some (found, day)) → ⊥
    none_some e = cc
month_sum (suc left) y m n found day e = by_test (nat_lt n (days_in_month y (suc m))) refl (month_sum left y (suc m) (n - days_in_month y (suc m)) found day) e
  where
    by_test : (b : Bool) → nat_lt n (days_in_month y (suc m)) ≡ b
        → (month_from left y (suc m) (n - days_in_month y (suc m)) ≡ Some (found, day)
        → (0 < found) × ((0 < day) × ((n - days_in_month y (suc m)) + days_before_month y (suc m) ≡ days_before_month y (found - 1) + (day - 1))))
        → (if b then Some (suc m, suc n) else month_from left y (suc m) (n - days_in_month y (suc m))) ≡ Some (found, day)
        → (0 < found) × ((0 < day) × (n + days_before_month y m ≡ days_before_month y (found - 1) + (day - 1)))
    by_test true t more e =
        let both = some_pair (suc m) (suc n) found day e in
        let month : found - 1 ≡ m = omega (arith, both.0) in
        let rest : day - 1 ≡ n = omega (arith, both.1) in
        (omega (arith, both.0), (omega (arith, both.1), rw (month, rest) (omega arith)))
    by_test false t more e =
        let later : days_in_month y (suc m) ≤ n = grind (arith, nat_tests, t) in
        let sum = more e in
        let next = months_next y m in
        (sum.0, (sum.1.0, omega (arith, sum.1.1, next, later)))

-- nothing is not something
none_some : {A : Type 0} (x : A) → ◌≡◌ {A = Option A} None (Some x) → ⊥
none_some x e = cc

-- a day that was found, by its year and its month
day_found : (k y r : ℕ) (date : Date) (o : Option (ℕ × ℕ)) → year_at k ≡ Some (y, r) → month_at y r ≡ o
    → option_map (date_in y) o ≡ Some date → day_number date ≡ k
day_found k y r date None years months e = absurd (none_some date e)
day_found k y r date (Some (m, d)) years months e =
    let of : Option Date → Date = λ o. elim o [ None ↦ date | Some x ↦ x ] in
    let is : date_in y (m, d) ≡ date = ap of e in
    let year = year_sum 10000 0 k y r years in
    let month = month_sum 12 y 0 r m d months in
    let first = no_year_before in
    let none = no_month_before y in
    let sum : day_number (date_in y (m, d)) ≡ k = omega (arith, year, month.1.1, first, none) in
    subst (λ (x : Date). day_number x ≡ k) is sum

-- the number of a day that was found
day_sum : (k : ℕ) (date : Date) (o : Option (ℕ × ℕ)) → year_at k ≡ o
    → option_and_then (λ found. option_map (date_in found.0) (month_at found.0 found.1)) o ≡ Some date → day_number date ≡ k
day_sum k date None years e = absurd (none_some date e)
day_sum k date (Some (y, r)) years e = day_found k y r date (month_at y r) years refl e

-- the seconds of a date and a time that were found
moment_sum : (n : ℕ) (date : Date) (time : TimeOfDay) (o : Option Date) → date_at (n / 86400) ≡ o
    → option_map {U = Date × TimeOfDay} (λ (found : Date). (found, time_at (n % 86400))) o ≡ Some (date, time) → seconds_of date time ≡ n
moment_sum n date time None days e = let both : Date × TimeOfDay = (date, time) in absurd (none_some both e)
moment_sum n date time (Some found) days e =
    let day_of : Option (Date × TimeOfDay) → Date = λ o. elim o [ None ↦ date | Some x ↦ x.0 ] in
    let time_of : Option (Date × TimeOfDay) → TimeOfDay = λ o. elim o [ None ↦ time | Some x ↦ x.1 ] in
    let day : found ≡ date = ap day_of e in
    let clock : time_at (n % 86400) ≡ time = ap time_of e in
    let number = day_sum (n / 86400) found (year_at (n / 86400)) refl days in
    let sum : seconds_of found (time_at (n % 86400)) ≡ n = omega (arith, number) in
    subst (λ (x : Date). seconds_of x time ≡ n) day (subst (λ (t : TimeOfDay). seconds_of found t ≡ n) clock sum)

-- seconds that were moved, moved back
back_of : (b : Bool) (sec s n : ℕ) → sec < 2 ^ 42 → moved_seconds (record { seconds = sec; is_back = b }) s ≡ Some n
    → moved_seconds (record { seconds = sec; is_back = not b }) n ≡ Some s
back_of true sec s n h e = by_test (nat_lt s sec) refl e
  where
    by_test : (b : Bool) → nat_lt s sec ≡ b → (if b then None else Some (s - sec)) ≡ Some n
        → (if nat_lt sec 0x40000000000 then Some (n + sec) else None) ≡ Some s
    by_test true t e = absurd (none_some n e)
    by_test false t e =
        let of : Option ℕ → ℕ = λ o. elim o [ None ↦ 0 | Some x ↦ x ] in
        let is : s - sec ≡ n = ap of e in
        let low : sec ≤ s = grind (arith, nat_tests, t) in
        let yes : nat_lt sec 0x40000000000 ≡ true = grind (arith, nat_tests, h) in
        let same : n + sec ≡ s = omega (arith, is, low) in
        ap (λ b. if b then Some (n + sec) else None) yes ∙ ap (λ x. Some x) same
back_of false sec s n h e =
    let of : Option ℕ → ℕ = λ o. elim o [ None ↦ 0 | Some x ↦ x ] in
    let yes : nat_lt sec 0x40000000000 ≡ true = grind (arith, nat_tests, h) in
    let sum : ◌≡◌ {A = Option ℕ} (Some (s + sec)) (Some n) = sym (ap (λ b. if b then Some (s + sec) else None) yes) ∙ e in
    let is : s + sec ≡ n = ap of sum in
    let no : nat_lt n sec ≡ false = grind (arith, nat_tests, is) in
    let same : n - sec ≡ s = omega (arith, is) in
    ap (λ b. if b then None else Some (n - sec)) no ∙ ap (λ x. Some x) same

-- a date that was moved is moved back
pub moved_back : (by : ClockShift) (date new_date : Date) (time new_time : TimeOfDay)
    → is_day date ≡ true → is_time time ≡ true → by.seconds < 2 ^ 42
    → moved by (date, time) ≡ Some (new_date, new_time) → moved (opposite by) (new_date, new_time) ≡ Some (date, time)
moved_back by date new_date time new_time day clock few e = by_seconds (moved_seconds by (seconds_of date time)) refl e
  where
    by_seconds : (o : Option ℕ) → moved_seconds by (seconds_of date time) ≡ o → option_and_then moment_at o ≡ Some (new_date, new_time)
        → moved (opposite by) (new_date, new_time) ≡ Some (date, time)
    by_seconds None is e = let both : Date × TimeOfDay = (new_date, new_time) in absurd (none_some both e)
    by_seconds (Some n) is e =
        let sum : seconds_of new_date new_time ≡ n = moment_sum n new_date new_time (date_at (n / 86400)) refl e in
        let back = back_of by.is_back by.seconds (seconds_of date time) n few is in
        ap (λ (k : ℕ). option_and_then moment_at (moved_seconds (opposite by) k)) sum
        ∙ (ap (option_and_then moment_at) back ∙ moment_back date time day clock)
