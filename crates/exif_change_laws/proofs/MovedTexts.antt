-- The text of a date that was moved, moved back.
use Rattle.std.proofs.Common.{◌≡◌, ◌<◌, ◌≤◌, ◌+◌, ◌-◌, ◌*◌, ◌/◌, ◌%◌, ◌==◌, ◌&&◌, ◌||◌, ◌∙◌, ℕ, zero, suc, true, false, Bool, List, [], ◌∷◌, ◌++◌, length, take, drop, Option, Some, None, Result, Ok, Err, if◌then◌else◌, refl, sym, ap, subst, arith}
use Rattle.std.specs.Prelude.{nat_le, nat_lt, nat_eq, not, slice_index}
use Rattle.std.specs.Option.{option_and_then, option_map}
use Rattle.std.proofs.lemmas.Bool.{and_parts}
use Rattle.std.proofs.lemmas.Bool.Decides.{nat_tests}
use Rattle.std.proofs.lemmas.List.{take-append-drop}
use Rattle.std.proofs.Math.Seq.{drop-cons}
use Rattle.exif_text.specs.Dates.{date_at as read_day, both, has_date_digits, has_delimiters, has_time_digits, is_blank, parse_datetime, read_date, read_time, time_at as read_clock}
use Rattle.exif_text.specs.Digits.{are_two_at, is_digit_at, two_at}
use Rattle.exif_text.specs.declared.date.Date.{Date}
use Rattle.exif_text.specs.declared.date.TimeOfDay.{TimeOfDay}
use Rattle.exif_text.specs.declared.date_fault.DateFault.{DateFault}
use Rattle.exif_text.specs.declared.date_fault.DateFault.TheVariants.{BlankDate, DateTooShort, InvalidDateDelimiter, NotANumber}
use Rattle.exif_types.specs.declared.value.Value.{Value}
use Rattle.exif_types.specs.declared.value.Value.TheVariants.{Byte, Ascii, Short, Long, Rational, SByte, Undefined, SShort, SLong, SRational, Float, Double, Unknown}
use Rattle.exif_datetime.specs.Calendar.{date_at, date_in, days_in_month, days_in_year, is_day, is_leap, is_time, moment_at, month_at, month_from, seconds_of, time_at, year_at, year_from}
use Rattle.exif_datetime.specs.Shift.{digit, moment_text, moved, moved_seconds, moved_text, moved_texts, moved_value, on_calendar, opposite, stated, text_or, unmoved_by, with_date}
use Rattle.exif_datetime.specs.declared.shift.ClockShift.{ClockShift}
use Rattle.exif_datetime.specs.declared.shift.Unmoved.{Unmoved}
use Rattle.exif_datetime.specs.declared.shift.Unmoved.TheVariants.{Blank, Invalid, OutOfRange}

-- ---- the bytes of a text that states a date

-- this many bytes of a list, one after the other
abbrev listed : List ℕ → ℕ → ℕ → List ℕ
listed xs i zero = []
listed xs i (suc n) = slice_index xs i ∷ listed xs (suc i) n

taken : (xs : List ℕ) (i n : ℕ) → i + n ≤ length xs → take n (drop i xs) ≡ listed xs i n
taken xs i zero h = refl
taken xs i (suc n) h =
    let here : i < length xs = omega arith in
    let rest = taken xs (suc i) n (omega arith) in
    ap (take (suc n)) (drop-cons xs i 0 here) ∙ ap (λ t. slice_index xs i ∷ t) rest

link : (a b : ℕ) (xs ys : List ℕ) → a ≡ b → xs ≡ ys → a ∷ xs ≡ b ∷ ys
link a b xs ys e f = cc

-- a digit, told by the number of which it is the last
digit_is : (c n m : ℕ) → (nat_le 48 c && nat_le c 57) ≡ true → n ≡ 10 * m + (c - 48) → c ≡ digit n
digit_is c n m h e =
    let p = and_parts (nat_le 48 c) (nat_le c 57) h in
    let low : 48 ≤ c = grind (arith, nat_tests, p.0) in
    let high : c ≤ 57 = grind (arith, nat_tests, p.1) in
    omega (arith, low, high, e)

delimiter : (c d : ℕ) → (c == d) ≡ true → c ≡ d
delimiter c d h = grind (arith, nat_tests, h)

two_digits : (xs : List ℕ) (i : ℕ) → are_two_at xs i ≡ true
    → (slice_index xs i ≡ digit (two_at xs i / 10)) × (slice_index xs (i + 1) ≡ digit (two_at xs i))
two_digits xs i h =
    let p = and_parts (is_digit_at xs i) (is_digit_at xs (i + 1)) h in
    let a = and_parts (nat_le 48 (slice_index xs i)) (nat_le (slice_index xs i) 57) p.0 in
    let b = and_parts (nat_le 48 (slice_index xs (i + 1))) (nat_le (slice_index xs (i + 1)) 57) p.1 in
    let a0 : 48 ≤ slice_index xs i = grind (arith, nat_tests, a.0) in
    let a1 : slice_index xs i ≤ 57 = grind (arith, nat_tests, a.1) in
    let b0 : 48 ≤ slice_index xs (i + 1) = grind (arith, nat_tests, b.0) in
    let b1 : slice_index xs (i + 1) ≤ 57 = grind (arith, nat_tests, b.1) in
    (omega (arith, a0, a1, b0, b1), omega (arith, a0, a1, b0, b1))

-- a text of so many bytes with delimiters and digits begins with the text of what it states
spelled_so : (xs : List ℕ) → 19 ≤ length xs → has_delimiters xs ≡ true → has_date_digits xs ≡ true
    → has_time_digits xs ≡ true → take 19 xs ≡ moment_text (read_day xs, read_clock xs)
spelled_so xs long d p q =
    let d0 = and_parts ((slice_index xs 4 == 58) && ((slice_index xs 7 == 58) && ((slice_index xs 13 == 58) && (slice_index xs 16 == 58)))) (slice_index xs 10 == 32) d in
    let d1 = and_parts (slice_index xs 4 == 58) ((slice_index xs 7 == 58) && ((slice_index xs 13 == 58) && (slice_index xs 16 == 58))) d0.0 in
    let d2 = and_parts (slice_index xs 7 == 58) ((slice_index xs 13 == 58) && (slice_index xs 16 == 58)) d1.1 in
    let d3 = and_parts (slice_index xs 13 == 58) (slice_index xs 16 == 58) d2.1 in
    let p0 = and_parts (are_two_at xs 0) (are_two_at xs 2 && (are_two_at xs 5 && are_two_at xs 8)) p in
    let p1 = and_parts (are_two_at xs 2) (are_two_at xs 5 && are_two_at xs 8) p0.1 in
    let p2 = and_parts (are_two_at xs 5) (are_two_at xs 8) p1.1 in
    let q0 = and_parts (are_two_at xs 11) (are_two_at xs 14 && are_two_at xs 17) q in
    let q1 = and_parts (are_two_at xs 14) (are_two_at xs 17) q0.1 in
    let century = two_digits xs 0 p0.0 in
    let years = two_digits xs 2 p1.0 in
    let month = two_digits xs 5 p2.0 in
    let day = two_digits xs 8 p2.1 in
    let hour = two_digits xs 11 q0.0 in
    let minute = two_digits xs 14 q1.0 in
    let second = two_digits xs 17 q1.1 in
    let year = two_at xs 0 * 100 + two_at xs 2 in
    let low : two_at xs 2 < 100 = two_below xs 2 p1.0 in
    let y0 : digit (two_at xs 0 / 10) ≡ digit (year / 1000) = omega (arith, low) in
    let y1 : digit (two_at xs 0) ≡ digit (year / 100) = omega (arith, low) in
    let y2 : digit (two_at xs 2 / 10) ≡ digit (year / 10) = omega (arith, low) in
    let y3 : digit (two_at xs 2) ≡ digit year = omega (arith, low) in
    taken xs 0 19 long
    ∙ link _ _ _ _ (century.0 ∙ y0) (link _ _ _ _ (century.1 ∙ y1)
    (link _ _ _ _ (years.0 ∙ y2) (link _ _ _ _ (years.1 ∙ y3)
    (link _ _ _ _ (delimiter (slice_index xs 4) 58 d1.0)
    (link _ _ _ _ month.0 (link _ _ _ _ month.1
    (link _ _ _ _ (delimiter (slice_index xs 7) 58 d2.0)
    (link _ _ _ _ day.0 (link _ _ _ _ day.1
    (link _ _ _ _ (delimiter (slice_index xs 10) 32 d0.1)
    (link _ _ _ _ hour.0 (link _ _ _ _ hour.1
    (link _ _ _ _ (delimiter (slice_index xs 13) 58 d3.0)
    (link _ _ _ _ minute.0 (link _ _ _ _ minute.1
    (link _ _ _ _ (delimiter (slice_index xs 16) 58 d3.1)
    (link _ _ _ _ second.0 (link _ _ _ _ second.1 refl))))))))))))))))))
  where
    two_below : (ys : List ℕ) (i : ℕ) → are_two_at ys i ≡ true → two_at ys i < 100
    two_below ys i h =
        let p = and_parts (is_digit_at ys i) (is_digit_at ys (i + 1)) h in
        let a = and_parts (nat_le 48 (slice_index ys i)) (nat_le (slice_index ys i) 57) p.0 in
        let b = and_parts (nat_le 48 (slice_index ys (i + 1))) (nat_le (slice_index ys (i + 1)) 57) p.1 in
        let a1 : slice_index ys i ≤ 57 = grind (arith, nat_tests, a.1) in
        let b1 : slice_index ys (i + 1) ≤ 57 = grind (arith, nat_tests, b.1) in
        omega (arith, a1, b1)

-- ---- a text that states a date

-- what a text that states a date begins with, and that the calendar and the clock have it
pub record States (xs : List ℕ) (moment : Date × TimeOfDay) : Type 0 where
  pub day : is_day moment.0 ≡ true
  pub clock : is_time moment.1 ≡ true
  pub begins : take 19 xs ≡ moment_text moment

both_read : (x : Result Date DateFault) (y : Result TimeOfDay DateFault) (m : Date × TimeOfDay) → both x y ≡ Ok m
    → (x ≡ Ok m.0) × (y ≡ Ok m.1)
both_read (Ok date) (Ok time) m e =
    let of : Result (Date × TimeOfDay) DateFault → Date × TimeOfDay = λ r. elim r [ Ok x ↦ x | Err f ↦ m ] in
    let is : ◌≡◌ {A = Date × TimeOfDay} (date, time) m = ap of e in
    (ap (λ (x : Date × TimeOfDay). Ok x.0) is, ap (λ (x : Date × TimeOfDay). Ok x.1) is)
both_read (Ok date) (Err f) m e = absurd (err_ok f m e)
  where
    err_ok : (f : DateFault) (m : Date × TimeOfDay) → ◌≡◌ {A = Result (Date × TimeOfDay) DateFault} (Err f) (Ok m) → ⊥
    err_ok f m e = cc
both_read (Err f) y m e = absurd (err_ok f m e)
  where
    err_ok : (f : DateFault) (m : Date × TimeOfDay) → ◌≡◌ {A = Result (Date × TimeOfDay) DateFault} (Err f) (Ok m) → ⊥
    err_ok f m e = cc

if_digits : {X : Type 0} (b : Bool) (x y : X) → ◌≡◌ {A = Result X DateFault} (if b then Ok x else Err NotANumber) (Ok y) → (b ≡ true) × (x ≡ y)
if_digits {X = X} true x y e = (refl, same e)
  where
    same : ◌≡◌ {A = Result X DateFault} (Ok x) (Ok y) → x ≡ y
    same e = cc
if_digits {X = X} false x y e = absurd (err_ok e)
  where
    err_ok : ◌≡◌ {A = Result X DateFault} (Err NotANumber) (Ok y) → ⊥
    err_ok e = cc

-- what was parsed
parsed : (xs : List ℕ) (m : Date × TimeOfDay) → parse_datetime xs ≡ Ok m
    → (nat_lt (length xs) 19 ≡ false) × (take 19 xs ≡ moment_text m)
unfolding parse_datetime
parsed xs m e = by_tests (is_blank xs) (nat_lt (length xs) 19) (has_delimiters xs) refl refl e
  where
    err_ok : (f : DateFault) → ◌≡◌ {A = Result (Date × TimeOfDay) DateFault} (Err f) (Ok m) → ⊥
    err_ok f e = cc

    by_tests : (a b c : Bool) → nat_lt (length xs) 19 ≡ b → has_delimiters xs ≡ c
        → (if a then Err BlankDate else (if b then Err DateTooShort else (if not c then Err InvalidDateDelimiter
        else both (read_date xs) (read_time xs)))) ≡ Ok m
        → (b ≡ false) × (take 19 xs ≡ moment_text m)
    by_tests true b c h k e = absurd (err_ok BlankDate e)
    by_tests false true c h k e = absurd (err_ok DateTooShort e)
    by_tests false false false h k e = absurd (err_ok InvalidDateDelimiter e)
    by_tests false false true h k e =
        let r = both_read (read_date xs) (read_time xs) m e in
        let p = if_digits (has_date_digits xs) (read_day xs) m.0 r.0 in
        let q = if_digits (has_time_digits xs) (read_clock xs) m.1 r.1 in
        let long : 19 ≤ length xs = grind (arith, nat_tests, h) in
        (refl, spelled_so xs long k p.0 q.0 ∙ (ap (λ (d : Date). moment_text (d, read_clock xs)) p.1 ∙ ap (λ (t : TimeOfDay). moment_text (m.0, t)) q.1))

calendar_has : (xs : List ℕ) (m n : Date × TimeOfDay) → on_calendar xs m ≡ Ok n
    → (is_day m.0 ≡ true) × ((is_time m.1 ≡ true) × (m ≡ n))
calendar_has xs m n e = by_tests (is_day m.0) (is_time m.1) (nat_le 19 (length xs)) ((m.0.month == 0) && (m.0.day == 0)) e
  where
    err_ok : (f : Unmoved) → ◌≡◌ {A = Result (Date × TimeOfDay) Unmoved} (Err f) (Ok n) → ⊥
    err_ok f e = cc

    same : ◌≡◌ {A = Result (Date × TimeOfDay) Unmoved} (Ok m) (Ok n) → m ≡ n
    same e = cc

    none : (d : Bool) → ◌≡◌ {A = Result (Date × TimeOfDay) Unmoved} (if d then Err Blank else Err Invalid) (Ok n) → ⊥
    none true e = err_ok Blank e
    none false e = err_ok Invalid e

    by_tests : (a b c d : Bool) → (if (a && b) && c then Ok m else (if d then Err Blank else Err Invalid)) ≡ Ok n
        → (a ≡ true) × ((b ≡ true) × (m ≡ n))
    by_tests true true true d e = (refl, (refl, same e))
    by_tests true true false d e = absurd (none d e)
    by_tests true false c d e = absurd (none d e)
    by_tests false b c d e = absurd (none d e)

-- a text that states a date begins with it
pub stated_so : (xs : List ℕ) (m : Date × TimeOfDay) → stated xs ≡ Ok m → States xs m
stated_so xs m e = by_parse (parse_datetime xs) refl e
  where
    err_ok : (f : Unmoved) → ◌≡◌ {A = Result (Date × TimeOfDay) Unmoved} (Err f) (Ok m) → ⊥
    err_ok f e = cc

    by_parse : (r : Result (Date × TimeOfDay) DateFault) → parse_datetime xs ≡ r
        → ◌≡◌ {A = Result (Date × TimeOfDay) Unmoved} (elim r [ Ok moment ↦ on_calendar xs moment | Err fault ↦ Err (unmoved_by fault) ]) (Ok m)
        → States xs m
    by_parse (Err f) h e = absurd (err_ok (unmoved_by f) e)
    by_parse (Ok n) h e =
        let c = calendar_has xs n m e in
        let p = parsed xs n h in
        record {
          day = subst (λ (x : Date × TimeOfDay). is_day x.0 ≡ true) c.1.1 c.0;
          clock = subst (λ (x : Date × TimeOfDay). is_time x.1 ≡ true) c.1.1 c.1.0;
          begins = p.1 ∙ ap moment_text c.1.1;
        }

-- ---- a day that was found is one of the calendar

none_some : {A : Type 0} (x : A) → ◌≡◌ {A = Option A} None (Some x) → ⊥
none_some x e = cc

some_pair : (a b c d : ℕ) → ◌≡◌ {A = Option (ℕ × ℕ)} (Some (a, b)) (Some (c, d)) → (a ≡ c) × (b ≡ d)
some_pair a b c d e =
    let first : Option (ℕ × ℕ) → ℕ = λ o. elim o [ None ↦ 0 | Some p ↦ p.0 ] in
    let second : Option (ℕ × ℕ) → ℕ = λ o. elim o [ None ↦ 0 | Some p ↦ p.1 ] in
    (ap first e, ap second e)

year_below : (left y n found rest : ℕ) → year_from left y n ≡ Some (found, rest) → found < y + left
unfolding year_from
year_below zero y n found rest e = absurd (none_some (found, rest) e)
year_below (suc left) y n found rest e =
    by_test (nat_lt n (days_in_year y)) (year_below left (suc y) (n - days_in_year y) found rest) e
  where
    by_test : (b : Bool) → (year_from left (suc y) (n - days_in_year y) ≡ Some (found, rest) → found < suc y + left)
        → (if b then Some (y, n) else year_from left (suc y) (n - days_in_year y)) ≡ Some (found, rest)
        → found < y + suc left
    by_test true more e = let p = some_pair y n found rest e in omega (arith, p.0)
    by_test false more e = let m = more e in omega (arith, m)

month_below : (left y m n found day : ℕ) → month_from left y m n ≡ Some (found, day)
    → (0 < found) × ((found ≤ m + left) × ((0 < day) × (day ≤ days_in_month y found)))
unfolding month_from
month_below zero y m n found day e = absurd (none_some (found, day) e)
month_below (suc left) y m n found day e =
    by_test (nat_lt n (days_in_month y (suc m))) refl (month_below left y (suc m) (n - days_in_month y (suc m)) found day) e
  where
    by_test : (b : Bool) → nat_lt n (days_in_month y (suc m)) ≡ b
        → (month_from left y (suc m) (n - days_in_month y (suc m)) ≡ Some (found, day)
        → (0 < found) × ((found ≤ suc m + left) × ((0 < day) × (day ≤ days_in_month y found))))
        → (if b then Some (suc m, suc n) else month_from left y (suc m) (n - days_in_month y (suc m))) ≡ Some (found, day)
        → (0 < found) × ((found ≤ m + suc left) × ((0 < day) × (day ≤ days_in_month y found)))
    by_test true h more e =
        let p = some_pair (suc m) (suc n) found day e in
        let small : n < days_in_month y (suc m) = grind (arith, nat_tests, h) in
        let whole : suc n ≤ days_in_month y (suc m) = omega (arith, small) in
        let here : suc n ≤ days_in_month y found = subst (λ (k : ℕ). suc n ≤ days_in_month y k) p.0 whole in
        (omega (arith, p.0), (omega (arith, p.0), (omega (arith, p.1), subst (λ (k : ℕ). k ≤ days_in_month y found) p.1 here)))
    by_test false h more e =
        let k = more e in
        (k.0, (omega (arith, k.1.0), k.1.1))

-- the tests of a day
day_tests : (date : Date) → date.year < 10000 → 0 < date.month → date.month < 13 → 0 < date.day
    → date.day ≤ days_in_month date.year date.month → is_day date ≡ true
day_tests date a b c d f =
    let a' : nat_lt date.year 10000 ≡ true = grind (arith, nat_tests, a) in
    let b' : nat_lt 0 date.month ≡ true = grind (arith, nat_tests, b) in
    let c' : nat_lt date.month 13 ≡ true = grind (arith, nat_tests, c) in
    let d' : nat_lt 0 date.day ≡ true = grind (arith, nat_tests, d) in
    let f' : nat_le date.day (days_in_month date.year date.month) ≡ true = grind (arith, nat_tests, f) in
    all_true (nat_lt date.year 10000) (nat_lt 0 date.month) (nat_lt date.month 13) (nat_lt 0 date.day)
    (nat_le date.day (days_in_month date.year date.month)) a' b' c' d' f'
  where
    all_true : (a b c d f : Bool) → a ≡ true → b ≡ true → c ≡ true → d ≡ true → f ≡ true
        → (a && (b && (c && (d && f)))) ≡ true
    all_true a b c d f p q r s t = rw (p, q, r, s, t) refl

time_tests : (s : ℕ) → s < 86400 → is_time (time_at s) ≡ true
time_tests s h =
    let a : nat_lt (s / 3600) 24 ≡ true = let l : s / 3600 < 24 = omega (arith, h) in grind (arith, nat_tests, l) in
    let b : nat_lt (s / 60 % 60) 60 ≡ true = let l : s / 60 % 60 < 60 = omega arith in grind (arith, nat_tests, l) in
    let c : nat_lt (s % 60) 60 ≡ true = let l : s % 60 < 60 = omega arith in grind (arith, nat_tests, l) in
    all_true (nat_lt (s / 3600) 24) (nat_lt (s / 60 % 60) 60) (nat_lt (s % 60) 60) a b c
  where
    all_true : (a b c : Bool) → a ≡ true → b ≡ true → c ≡ true → (a && (b && c)) ≡ true
    all_true a b c p q r = rw (p, q, r) refl

-- a day that was found
day_found : (k : ℕ) (date : Date) → date_at k ≡ Some date → is_day date ≡ true
day_found k date e = by_year (year_at k) refl e
  where
    by_month : (y r : ℕ) (o : Option (ℕ × ℕ)) → year_at k ≡ Some (y, r) → month_at y r ≡ o
        → option_map (date_in y) o ≡ Some date → is_day date ≡ true
    by_month y r None years months e = absurd (none_some date e)
    by_month y r (Some p) years months e =
        let of : Option Date → Date = λ o. elim o [ None ↦ date | Some x ↦ x ] in
        let is : date_in y p ≡ date = ap of e in
        let year = year_below 10000 0 k y r years in
        let month = month_below 12 y 0 r p.0 p.1 months in
        subst (λ (x : Date). is_day x ≡ true) is
        (day_tests (date_in y p) (omega (arith, year)) month.0 (omega (arith, month.1.0)) month.1.1.0 month.1.1.1)

    by_year : (o : Option (ℕ × ℕ)) → year_at k ≡ o
        → option_and_then (λ found. option_map (date_in found.0) (month_at found.0 found.1)) o ≡ Some date
        → is_day date ≡ true
    by_year None years e = absurd (none_some date e)
    by_year (Some p) years e = by_month p.0 p.1 (month_at p.0 p.1) years refl e

-- a moment that was found
moment_found : (n : ℕ) (m : Date × TimeOfDay) → moment_at n ≡ Some m → (is_day m.0 ≡ true) × (is_time m.1 ≡ true)
moment_found n m e = by_day (date_at (n / 86400)) refl e
  where
    by_day : (o : Option Date) → date_at (n / 86400) ≡ o
        → option_map {U = Date × TimeOfDay} (λ (found : Date). (found, time_at (n % 86400))) o ≡ Some m
        → (is_day m.0 ≡ true) × (is_time m.1 ≡ true)
    by_day None days e = absurd (none_some m e)
    by_day (Some date) days e =
        let of : Option (Date × TimeOfDay) → Date × TimeOfDay = λ o. elim o [ None ↦ m | Some x ↦ x ] in
        let is : ◌≡◌ {A = Date × TimeOfDay} (date, time_at (n % 86400)) m = ap of e in
        let clock = time_tests (n % 86400) (omega arith) in
        subst (λ (x : Date × TimeOfDay). (is_day x.0 ≡ true) × (is_time x.1 ≡ true)) is (day_found (n / 86400) date days, clock)

-- a date that was moved
moved_found : (by : ClockShift) (m k : Date × TimeOfDay) → moved by m ≡ Some k → (is_day k.0 ≡ true) × (is_time k.1 ≡ true)
moved_found by m k e = by_seconds (moved_seconds by (seconds_of m.0 m.1)) e
  where
    by_seconds : (o : Option ℕ) → option_and_then moment_at o ≡ Some k → (is_day k.0 ≡ true) × (is_time k.1 ≡ true)
    by_seconds None e = absurd (none_some k e)
    by_seconds (Some n) e = moment_found n k e

-- ---- the text of a moment states it

is_digit : (n : ℕ) → (nat_le 48 (digit n) && nat_le (digit n) 57) ≡ true
is_digit n =
    let a : nat_le 48 (digit n) ≡ true = let l : 48 ≤ digit n = omega arith in grind (arith, nat_tests, l) in
    let b : nat_le (digit n) 57 ≡ true = let l : digit n ≤ 57 = omega arith in grind (arith, nat_tests, l) in
    rw (a, b) refl

no_space : (n : ℕ) → nat_eq (digit n) 32 ≡ false
no_space n = let l : 48 ≤ digit n = omega arith in grind (arith, nat_tests, l)

all_digits : (a b c d : Bool) → a ≡ true → b ≡ true → c ≡ true → d ≡ true → (a && (b && (c && d))) ≡ true
all_digits a b c d p q r s = rw (p, q, r, s) refl

three_digits : (a b c : Bool) → a ≡ true → b ≡ true → c ≡ true → (a && (b && c)) ≡ true
three_digits a b c p q r = rw (p, q, r) refl

two : (a b : ℕ) → ((nat_le 48 (digit a) && nat_le (digit a) 57) && (nat_le 48 (digit b) && nat_le (digit b) 57)) ≡ true
two a b = let p = is_digit a in let q = is_digit b in rw (p, q) refl

-- a text of 19 characters and more that is one of a date is parsed
parsed_so : (xs : List ℕ) → is_blank xs ≡ false → nat_lt (length xs) 19 ≡ false → has_delimiters xs ≡ true
    → has_date_digits xs ≡ true → has_time_digits xs ≡ true → parse_datetime xs ≡ Ok (read_day xs, read_clock xs)
unfolding parse_datetime
parsed_so xs a b c d e = rw (a, b, c, d, e) refl

-- the text of a moment of the calendar, and more behind it
stated_again : (m : Date × TimeOfDay) (rest : List ℕ) → is_day m.0 ≡ true → is_time m.1 ≡ true
    → stated (moment_text m ++ rest) ≡ Ok m
stated_again m rest day clock =
    let xs = moment_text m ++ rest in
    let date = m.0 in
    let time = m.1 in
    let blank : is_blank xs ≡ false = let p = no_space (date.year / 1000) in rw p refl in
    let long : 19 ≤ length xs = omega arith in
    let short : nat_lt (length xs) 19 ≡ false = grind (arith, nat_tests, long) in
    let whole : nat_le 19 (length xs) ≡ true = grind (arith, nat_tests, long) in
    let dates : has_date_digits xs ≡ true =
    all_digits _ _ _ _ (two (date.year / 1000) (date.year / 100)) (two (date.year / 10) date.year) (two (date.month / 10) date.month) (two (date.day / 10) date.day) in
    let times : has_time_digits xs ≡ true =
    three_digits _ _ _ (two (time.hour / 10) time.hour) (two (time.minute / 10) time.minute) (two (time.second / 10) time.second) in
    let parse = parsed_so xs blank short refl dates times in
    let years : date.year < 10000 = grind (arith, nat_tests, day) in
    let months : date.month < 13 = grind (arith, nat_tests, day) in
    let days : date.day ≤ days_in_month date.year date.month = grind (arith, nat_tests, day) in
    let most : days_in_month date.year date.month ≤ 31 = at_most date.year date.month in
    let hours : time.hour < 24 = grind (arith, nat_tests, clock) in
    let minutes : time.minute < 60 = grind (arith, nat_tests, clock) in
    let seconds : time.second < 60 = grind (arith, nat_tests, clock) in
    let y : (digit (date.year / 1000) - 48) * 10 + (digit (date.year / 100) - 48) ≡ date.year / 100 = omega (arith, years) in
    let y' : ((digit (date.year / 1000) - 48) * 10 + (digit (date.year / 100) - 48)) * 100 + ((digit (date.year / 10) - 48) * 10 + (digit date.year - 48)) ≡ date.year = omega (arith, years) in
    let mo : (digit (date.month / 10) - 48) * 10 + (digit date.month - 48) ≡ date.month = omega (arith, months) in
    let da : (digit (date.day / 10) - 48) * 10 + (digit date.day - 48) ≡ date.day = omega (arith, days, most) in
    let ho : (digit (time.hour / 10) - 48) * 10 + (digit time.hour - 48) ≡ time.hour = omega (arith, hours) in
    let mi : (digit (time.minute / 10) - 48) * 10 + (digit time.minute - 48) ≡ time.minute = omega (arith, minutes) in
    let se : (digit (time.second / 10) - 48) * 10 + (digit time.second - 48) ≡ time.second = omega (arith, seconds) in
    let is : ◌≡◌ {A = Date × TimeOfDay} (read_day xs, read_clock xs) m = same_moment _ _ _ _ _ _ m y' mo da ho mi se in
    ap (λ (r : Result (Date × TimeOfDay) DateFault). elim r [ Ok moment ↦ on_calendar xs moment | Err fault ↦ Err (unmoved_by fault) ]) (parse ∙ ap (λ (x : Date × TimeOfDay). Ok x) is)
    ∙ if_all (is_day date) (is_time time) (nat_le 19 (length xs)) day clock whole
  where
    at_most : (y m : ℕ) → days_in_month y m ≤ 31
    at_most y m = by_tests (m == 2) ((m == 4) || ((m == 6) || ((m == 9) || (m == 11))))
      where
        by_leap : (b : Bool) → (if b then 29 else 28) ≤ 31
        by_leap true = omega arith
        by_leap false = omega arith

        by_tests : (a b : Bool) → (if a then (if is_leap y then 29 else 28) else (if b then 30 else 31)) ≤ 31
        by_tests true b = by_leap (is_leap y)
        by_tests false true = omega arith
        by_tests false false = omega arith

    same_moment : (y mo d h mi s : ℕ) (m : Date × TimeOfDay) → y ≡ m.0.year → mo ≡ m.0.month → d ≡ m.0.day
        → h ≡ m.1.hour → mi ≡ m.1.minute → s ≡ m.1.second
        → ◌≡◌ {A = Date × TimeOfDay} (record { year = y; month = mo; day = d }, record { hour = h; minute = mi; second = s }) m
    same_moment y mo d h mi s m a b c e f g = rw (a, b, c, e, f, g) refl

    if_all : (a b c : Bool) → a ≡ true → b ≡ true → c ≡ true
        → ◌≡◌ {A = Result (Date × TimeOfDay) Unmoved} (if (a && b) && c then Ok m else (if (m.0.month == 0) && (m.0.day == 0) then Err Blank else Err Invalid)) (Ok m)
    if_all a b c p q r = rw (p, q, r) refl

-- ---- values

-- a date that is moved back: the law of dates
abbrev pub MovesBack : ClockShift → Type 0
MovesBack by =
    (date new_date : Date) (time new_time : TimeOfDay)
    → is_day date ≡ true → is_time time ≡ true
    → moved by (date, time) ≡ Some (new_date, new_time)
    → moved (opposite by) (new_date, new_time) ≡ Some (date, time)

-- the text of a date that was moved, and what it was
pub record MovedText (by : ClockShift) (text date : List ℕ) : Type 0 where
  pub old : Date × TimeOfDay
  pub new : Date × TimeOfDay
  pub states : States text old
  pub moves : moved by old ≡ Some new
  pub is : moment_text new ≡ date

pub was_moved : (by : ClockShift) (text date : List ℕ) → moved_text by text ≡ Ok date → MovedText by text date
was_moved by text date e = by_statement (stated text) refl e
  where
    err_ok : (f : Unmoved) → ◌≡◌ {A = Result (List ℕ) Unmoved} (Err f) (Ok date) → ⊥
    err_ok f e = cc

    ok_same : (xs : List ℕ) → ◌≡◌ {A = Result (List ℕ) Unmoved} (Ok xs) (Ok date) → xs ≡ date
    ok_same xs e = cc

    by_moved : (m : Date × TimeOfDay) (o : Option (Date × TimeOfDay)) → stated text ≡ Ok m → moved by m ≡ o → text_or o ≡ Ok date
        → MovedText by text date
    by_moved m None s h e = absurd (err_ok OutOfRange e)
    by_moved m (Some k) s h e = record { old = m; new = k; states = stated_so text m s; moves = h; is = ok_same (moment_text k) e }

    by_statement : (r : Result (Date × TimeOfDay) Unmoved) → stated text ≡ r
        → ◌≡◌ {A = Result (List ℕ) Unmoved} (elim r [ Ok moment ↦ text_or (moved by moment) | Err why ↦ Err why ]) (Ok date) → MovedText by text date
    by_statement (Err f) s e = absurd (err_ok f e)
    by_statement (Ok m) s e = by_moved m (moved by m) s refl e

-- what the text of a moved date is moved back to
text_back : (by : ClockShift) (text date : List ℕ) → MovesBack by → (m : MovedText by text date)
    → moved_text (opposite by) (date ++ drop 19 text) ≡ Ok (moment_text m.old)
text_back by text date law m =
    let found = moved_found by m.old m.new m.moves in
    let back = law m.old.0 m.new.0 m.old.1 m.new.1 m.states.day m.states.clock m.moves in
    let again = stated_again m.new (drop 19 text) found.0 found.1 in
    ap (λ (xs : List ℕ). moved_text (opposite by) (xs ++ drop 19 text)) (sym m.is)
    ∙ (ap (λ (r : Result (Date × TimeOfDay) Unmoved). elim r [ Ok moment ↦ text_or (moved (opposite by) moment) | Err why ↦ Err why ]) again
    ∙ ap text_or back)

no_value : (f : Unmoved) (new : Value) → ◌≡◌ {A = Result Value Unmoved} (Err f) (Ok new) → ⊥
no_value f new e = cc

-- a value whose date was moved
pub value_back : (by : ClockShift) (old new : Value) → MovesBack by → moved_value by old ≡ Ok new → moved_value (opposite by) new ≡ Ok old
value_back by (Ascii texts) new law e = by_texts texts e
  where
    err_ok : (f : Unmoved) → ◌≡◌ {A = Result Value Unmoved} (Err f) (Ok new) → ⊥
    err_ok f e = cc

    ok_same : (v : Value) → ◌≡◌ {A = Result Value Unmoved} (Ok v) (Ok new) → v ≡ new
    ok_same v e = cc

    by_text : (first : List ℕ) (others : List (List ℕ)) (r : Result (List ℕ) Unmoved) → moved_text by first ≡ r
        → ◌≡◌ {A = Result Value Unmoved} (elim r [ Ok date ↦ Ok (with_date date (first ∷ others)) | Err why ↦ Err why ]) (Ok new)
        → moved_value (opposite by) new ≡ Ok (Ascii (first ∷ others))
    by_text first others (Err f) h e = absurd (err_ok f e)
    by_text first others (Ok date) h e =
        let m = was_moved by first date h in
        let back = text_back by first date law m in
        let n : drop 19 (date ++ drop 19 first) ≡ drop 19 first =
        ap (λ (xs : List ℕ). drop 19 (xs ++ drop 19 first)) (sym m.is) in
        let whole : moment_text m.old ++ drop 19 (date ++ drop 19 first) ≡ first =
        ap (λ (xs : List ℕ). moment_text m.old ++ xs) n
        ∙ (ap (λ (xs : List ℕ). xs ++ drop 19 first) (sym m.states.begins) ∙ take-append-drop 19 first) in
        ap (moved_value (opposite by)) (sym (ok_same (with_date date (first ∷ others)) e))
        ∙ (ap (λ (r : Result (List ℕ) Unmoved). elim r as (λ _. Result Value Unmoved) [
          | Ok d ↦ Ok (with_date d ((date ++ drop 19 first) ∷ others))
          | Err why ↦ Err why
        ]) back ∙ ap (λ (xs : List ℕ). let v : Result Value Unmoved = Ok (Ascii (xs ∷ others)) in v) whole)

    by_texts : (texts : List (List ℕ)) → moved_texts by texts ≡ Ok new → moved_value (opposite by) new ≡ Ok (Ascii texts)
    by_texts [] e = absurd (err_ok Blank e)
    by_texts (first ∷ others) e = by_text first others (moved_text by first) refl e
value_back by (Byte xs) new law e = absurd (no_value Invalid new e)
value_back by (Short xs) new law e = absurd (no_value Invalid new e)
value_back by (Long xs) new law e = absurd (no_value Invalid new e)
value_back by (Rational xs) new law e = absurd (no_value Invalid new e)
value_back by (SByte xs) new law e = absurd (no_value Invalid new e)
value_back by (Undefined xs offset) new law e = absurd (no_value Invalid new e)
value_back by (SShort xs) new law e = absurd (no_value Invalid new e)
value_back by (SLong xs) new law e = absurd (no_value Invalid new e)
value_back by (SRational xs) new law e = absurd (no_value Invalid new e)
value_back by (Float xs) new law e = absurd (no_value Invalid new e)
value_back by (Double xs) new law e = absurd (no_value Invalid new e)
value_back by (Unknown type count offset) new law e = absurd (no_value Invalid new e)
