-- Texts and dates that are assigned hold no zero byte.
use Rattle.std.proofs.Common.{◌≡◌, ◌≢◌, ◌<◌, ◌+◌, ◌==◌, ◌&&◌, ◌||◌, ◌∙◌, ℕ, zero, suc, Bool, true, false, not, All, List, [], ◌∷◌, length, get_or, set, Option, Some, None, Result, Ok, Err, is_ok, if◌then◌else◌, length-set, get_or-set_same, get_or-set_other, refl, sym, ap, subst, arith}
use Rattle.std.specs.Prelude.{nat_le, nat_lt}
use Rattle.std.specs.List.{list_any}
use Rattle.std.proofs.lemmas.Bool.{and_parts, false≢true}
use Rattle.std.proofs.lemmas.Bool.Decides.{nat_tests}
use Rattle.std.proofs.lemmas.List.Elements.{All-nil, All-cons, All-from_get_or}
use Rattle.exif_text.specs.Dates.{both, date_at, time_at, has_date_digits, has_delimiters, has_time_digits, is_blank, parse_datetime, read_date, read_time}
use Rattle.exif_text.specs.Digits.{are_two_at, is_digit_at}
use Rattle.exif_text.specs.declared.date.Date.{Date}
use Rattle.exif_text.specs.declared.date.TimeOfDay.{TimeOfDay}
use Rattle.exif_text.specs.declared.date_fault.DateFault.{DateFault}
use Rattle.exif_text.specs.declared.date_fault.DateFault.TheVariants.{BlankDate, DateTooShort, InvalidDateDelimiter, NotANumber}
use Rattle.exif_types.specs.Sound.{HasPlainTexts}
use Rattle.exif_types.specs.declared.value.Value.{Value}
use Rattle.exif_types.specs.declared.value.Value.TheVariants.{Ascii}
use Rattle.exif_datetime.specs.Calendar.{is_day}
use Rattle.exif_datetime.specs.Shift.{on_calendar, stated, unmoved_by}
use Rattle.exif_datetime.specs.declared.shift.Unmoved.{Unmoved}
use Rattle.exif_assign.specs.Fitting.{is_date, is_day_text, states_day}
use Rattle.exif_assign.specs.Values.{date_in, day_in, has_day_separators, has_separators, text_in}

-- a text without zero bytes
abbrev IsPlain : List ℕ → Type 0
IsPlain text = All (λ b. b ≢ 0) text

-- a value of one
one_plain : (text : List ℕ) → IsPlain text → HasPlainTexts (Ascii (text ∷ []))
one_plain text h = All-cons IsPlain text [] h (All-nil IsPlain)

value_same : (a b : Value) → ◌≡◌ {A = Option Value} (Some a) (Some b) → a ≡ b
value_same a b e = cc

none_some : (v : Value) → ◌≡◌ {A = Option Value} None (Some v) → ⊥
none_some v e = cc

-- ---- texts

no_zero : (text : List ℕ) → list_any (λ byte. byte == 0) text ≡ false → IsPlain text
no_zero [] e = All-nil (λ b. b ≢ 0)
no_zero (x ∷ xs) e =
    All-cons (λ b. b ≢ 0) x xs (other x (left (x == 0) (list_any (λ byte. byte == 0) xs) e))
    (no_zero xs (right (x == 0) (list_any (λ byte. byte == 0) xs) e))
  where
    left : (a b : Bool) → (a || b) ≡ false → a ≡ false
    left false b e = refl
    left true b e = absurd (false≢true (sym e))

    right : (a b : Bool) → (a || b) ≡ false → b ≡ false
    right false b e = e
    right true b e = absurd (false≢true (sym e))

    other : (x : ℕ) → (x == 0) ≡ false → x ≢ 0
    other x e = λ h. absurd (false≢true (sym e ∙ ap (λ y. y == 0) h))

pub text_plain : (text : List ℕ) (v : Value) → text_in text ≡ Some v → HasPlainTexts v
text_plain text v e = by_test (list_any (λ byte. byte == 0) text) refl e
  where
    by_test : (b : Bool) → list_any (λ byte. byte == 0) text ≡ b
        → (if b then None else Some (Ascii (text ∷ []))) ≡ Some v → HasPlainTexts v
    by_test true t e = absurd (none_some v e)
    by_test false t e =
        subst HasPlainTexts (value_same (Ascii (text ∷ [])) v e) (one_plain text (no_zero text t))

-- ---- bytes of dates

colon_there : (x : ℕ) → (x == 58) ≡ true → x ≢ 0
colon_there x e = λ h. absurd (false≢true (sym (ap (λ y. y == 58) h) ∙ e))

space_there : (x : ℕ) → (x == 32) ≡ true → x ≢ 0
space_there x e = λ h. absurd (false≢true (sym (ap (λ y. y == 32) h) ∙ e))

digit_there : (t : List ℕ) (i : ℕ) → is_digit_at t i ≡ true → get_or t i 0 ≢ 0
digit_there t i e =
    let p = and_parts (nat_le 48 (get_or t i 0)) (nat_le (get_or t i 0) 57) e in
    λ h. absurd (false≢true (sym (ap (λ y. nat_le 48 y) h) ∙ p.0))

-- two digits
two_there : (t : List ℕ) (i : ℕ) → are_two_at t i ≡ true → (get_or t i 0 ≢ 0) × (get_or t (i + 1) 0 ≢ 0)
two_there t i e =
    let p = and_parts (is_digit_at t i) (is_digit_at t (i + 1)) e in
    (digit_there t i p.0, digit_there t (i + 1) p.1)

-- the digits of a day
record HasDay (t : List ℕ) : Type 0 where
  a : (get_or t 0 0 ≢ 0) × (get_or t 1 0 ≢ 0)
  b : (get_or t 2 0 ≢ 0) × (get_or t 3 0 ≢ 0)
  c : (get_or t 5 0 ≢ 0) × (get_or t 6 0 ≢ 0)
  d : (get_or t 8 0 ≢ 0) × (get_or t 9 0 ≢ 0)

day_there : (t : List ℕ) → has_date_digits t ≡ true → HasDay t
day_there t e =
    let p = and_parts (are_two_at t 0) (are_two_at t 2 && (are_two_at t 5 && are_two_at t 8)) e in
    let q = and_parts (are_two_at t 2) (are_two_at t 5 && are_two_at t 8) p.1 in
    let r = and_parts (are_two_at t 5) (are_two_at t 8) q.1 in
    record {
      a = two_there t 0 p.0;
      b = two_there t 2 q.0;
      c = two_there t 5 r.0;
      d = two_there t 8 r.1;
    }

-- the digits of a time of day
record HasTime (t : List ℕ) : Type 0 where
  a : (get_or t 11 0 ≢ 0) × (get_or t 12 0 ≢ 0)
  b : (get_or t 14 0 ≢ 0) × (get_or t 15 0 ≢ 0)
  c : (get_or t 17 0 ≢ 0) × (get_or t 18 0 ≢ 0)

time_there : (t : List ℕ) → has_time_digits t ≡ true → HasTime t
time_there t e =
    let p = and_parts (are_two_at t 11) (are_two_at t 14 && are_two_at t 17) e in
    let q = and_parts (are_two_at t 14) (are_two_at t 17) p.1 in
    record { a = two_there t 11 p.0; b = two_there t 14 q.0; c = two_there t 17 q.1 }

-- what separates both
record HasMarks (t : List ℕ) : Type 0 where
  a : get_or t 4 0 ≢ 0
  b : get_or t 7 0 ≢ 0
  c : get_or t 13 0 ≢ 0
  d : get_or t 16 0 ≢ 0
  e : get_or t 10 0 ≢ 0

marks_there : (t : List ℕ) → has_delimiters t ≡ true → HasMarks t
marks_there t e =
    let p = and_parts (get_or t 4 0 == 58 && (get_or t 7 0 == 58 && (get_or t 13 0 == 58 && get_or t 16 0 == 58))) (get_or t 10 0 == 32) e in
    let q = and_parts (get_or t 4 0 == 58) (get_or t 7 0 == 58 && (get_or t 13 0 == 58 && get_or t 16 0 == 58)) p.0 in
    let r = and_parts (get_or t 7 0 == 58) (get_or t 13 0 == 58 && get_or t 16 0 == 58) q.1 in
    let s = and_parts (get_or t 13 0 == 58) (get_or t 16 0 == 58) r.1 in
    record {
      a = colon_there (get_or t 4 0) q.0;
      b = colon_there (get_or t 7 0) r.0;
      c = colon_there (get_or t 13 0) s.0;
      d = colon_there (get_or t 16 0) s.1;
      e = space_there (get_or t 10 0) p.1;
    }

-- ---- dates

date_plain_at : (t : List ℕ) → HasDay t → HasTime t → HasMarks t → (i : ℕ) → i < 19 → get_or t i 0 ≢ 0
date_plain_at t d k m zero h = d.a.0
date_plain_at t d k m (suc zero) h = d.a.1
date_plain_at t d k m (suc (suc zero)) h = d.b.0
date_plain_at t d k m (suc (suc (suc zero))) h = d.b.1
date_plain_at t d k m (suc (suc (suc (suc zero)))) h = m.a
date_plain_at t d k m (suc (suc (suc (suc (suc zero))))) h = d.c.0
date_plain_at t d k m (suc (suc (suc (suc (suc (suc zero)))))) h = d.c.1
date_plain_at t d k m (suc (suc (suc (suc (suc (suc (suc zero))))))) h = m.b
date_plain_at t d k m (suc (suc (suc (suc (suc (suc (suc (suc zero)))))))) h = d.d.0
date_plain_at t d k m (suc (suc (suc (suc (suc (suc (suc (suc (suc zero))))))))) h = d.d.1
date_plain_at t d k m (suc (suc (suc (suc (suc (suc (suc (suc (suc (suc zero)))))))))) h = m.e
date_plain_at t d k m (suc (suc (suc (suc (suc (suc (suc (suc (suc (suc (suc zero))))))))))) h = k.a.0
date_plain_at t d k m (suc (suc (suc (suc (suc (suc (suc (suc (suc (suc (suc (suc zero)))))))))))) h = k.a.1
date_plain_at t d k m (suc (suc (suc (suc (suc (suc (suc (suc (suc (suc (suc (suc (suc zero))))))))))))) h = m.c
date_plain_at t d k m (suc (suc (suc (suc (suc (suc (suc (suc (suc (suc (suc (suc (suc (suc zero)))))))))))))) h = k.b.0
date_plain_at t d k m (suc (suc (suc (suc (suc (suc (suc (suc (suc (suc (suc (suc (suc (suc (suc zero))))))))))))))) h = k.b.1
date_plain_at t d k m (suc (suc (suc (suc (suc (suc (suc (suc (suc (suc (suc (suc (suc (suc (suc (suc zero)))))))))))))))) h = m.d
date_plain_at t d k m (suc (suc (suc (suc (suc (suc (suc (suc (suc (suc (suc (suc (suc (suc (suc (suc (suc zero))))))))))))))))) h = k.c.0
date_plain_at t d k m (suc (suc (suc (suc (suc (suc (suc (suc (suc (suc (suc (suc (suc (suc (suc (suc (suc (suc zero)))))))))))))))))) h = k.c.1
date_plain_at t d k m (suc (suc (suc (suc (suc (suc (suc (suc (suc (suc (suc (suc (suc (suc (suc (suc (suc (suc (suc n))))))))))))))))))) h = absurd (omega (arith, h))

-- what a date was read by
record IsStated (t : List ℕ) : Type 0 where
  marks : has_delimiters t ≡ true
  day : has_date_digits t ≡ true
  time : has_time_digits t ≡ true

-- the date and the time of what was read
abbrev as_stated : List ℕ → Result (Date × TimeOfDay) DateFault → Result (Date × TimeOfDay) Unmoved
as_stated t read = elim read [ Ok moment ↦ on_calendar t moment | Err fault ↦ Err (unmoved_by fault) ]

stated_so : (t : List ℕ) → is_ok (stated t) ≡ true → IsStated t
unfolding parse_datetime
stated_so t e = by_blank (is_blank t) (nat_lt (length t) 19) (has_delimiters t) refl e
  where
    by_digits : (a b : Bool) → has_date_digits t ≡ a → has_time_digits t ≡ b
        → has_delimiters t ≡ true
        → is_ok (as_stated t (both (if a then Ok (date_at t) else Err NotANumber)
        (if b then Ok (time_at t) else Err NotANumber))) ≡ true → IsStated t
    by_digits true true p q m e = record { marks = m; day = p; time = q }
    by_digits true false p q m e = absurd (false≢true e)
    by_digits false b p q m e = absurd (false≢true e)

    by_blank : (a b c : Bool) → has_delimiters t ≡ c
        → is_ok (as_stated t (if a then Err BlankDate else (if b then Err DateTooShort
        else (if not c then Err InvalidDateDelimiter else both (read_date t) (read_time t))))) ≡ true
        → IsStated t
    by_blank true b c m e = absurd (false≢true e)
    by_blank false true c m e = absurd (false≢true e)
    by_blank false false false m e = absurd (false≢true e)
    by_blank false false true m e =
        by_digits (has_date_digits t) (has_time_digits t) refl refl m e

length_is : (n m : ℕ) → (n == m) ≡ true → n ≡ m
length_is n m e = grind (arith, nat_tests)

dated : (t : List ℕ) → is_date (Ascii (t ∷ [])) ≡ true → IsPlain t
dated t e =
    let p = and_parts (is_ok (stated t)) (length t == 19) e in
    let s = stated_so t p.0 in
    let n : length t ≡ 19 = length_is (length t) 19 p.1 in
    All-from_get_or (λ b. b ≢ 0) t 0
    (λ i h. date_plain_at t (day_there t s.day) (time_there t s.time) (marks_there t s.marks) i (omega (arith, n, h)))

pub date_plain : (text : List ℕ) (v : Value) → date_in text ≡ Some v → is_date v ≡ true
    → HasPlainTexts v
date_plain text v e h =
    by_test (not (length text == 19) || not (has_separators text)) e
  where
    by_test : (b : Bool) → (if b then None else Some (Ascii (set (set (set text 4 58) 7 58) 10 32 ∷ []))) ≡ Some v
        → HasPlainTexts v
    by_test true e = absurd (none_some v e)
    by_test false e =
        let same = value_same (Ascii (set (set (set text 4 58) 7 58) 10 32 ∷ [])) v e in
        subst HasPlainTexts same
        (one_plain (set (set (set text 4 58) 7 58) 10 32)
        (dated (set (set (set text 4 58) 7 58) 10 32) (ap is_date same ∙ h)))

-- ---- days

day_plain_at : (t : List ℕ) → HasDay t → get_or t 4 0 ≢ 0 → get_or t 7 0 ≢ 0 → (i : ℕ) → i < 10
    → get_or t i 0 ≢ 0
day_plain_at t d a b zero h = d.a.0
day_plain_at t d a b (suc zero) h = d.a.1
day_plain_at t d a b (suc (suc zero)) h = d.b.0
day_plain_at t d a b (suc (suc (suc zero))) h = d.b.1
day_plain_at t d a b (suc (suc (suc (suc zero)))) h = a
day_plain_at t d a b (suc (suc (suc (suc (suc zero))))) h = d.c.0
day_plain_at t d a b (suc (suc (suc (suc (suc (suc zero)))))) h = d.c.1
day_plain_at t d a b (suc (suc (suc (suc (suc (suc (suc zero))))))) h = b
day_plain_at t d a b (suc (suc (suc (suc (suc (suc (suc (suc zero)))))))) h = d.d.0
day_plain_at t d a b (suc (suc (suc (suc (suc (suc (suc (suc (suc zero))))))))) h = d.d.1
day_plain_at t d a b (suc (suc (suc (suc (suc (suc (suc (suc (suc (suc n)))))))))) h =
    absurd (omega (arith, h))

day_digits : (t : List ℕ) → states_day t ≡ true → has_date_digits t ≡ true
day_digits t e = by_test (has_date_digits t) refl e
  where
    by_test : (b : Bool) → has_date_digits t ≡ b
        → (elim (if b then Ok (date_at t) else Err NotANumber) as (λ (x : Result Date DateFault). Bool) [
          | Ok date ↦ is_day date
          | Err fault ↦ false
        ]) ≡ true → has_date_digits t ≡ true
    by_test true t e = t
    by_test false t e = absurd (false≢true e)

-- a day with its separators in place
with_marks : (text : List ℕ) → is_day_text (Ascii (set (set text 4 58) 7 58 ∷ [])) ≡ true
    → IsPlain (set (set text 4 58) 7 58)
with_marks text e =
    let t = set (set text 4 58) 7 58 in
    let p = and_parts (length t == 10) (states_day t) e in
    let n : length t ≡ 10 = length_is (length t) 10 p.0 in
    let m : length t ≡ length text = length-set (set text 4 58) 7 58 ∙ length-set text 4 58 in
    let l : length (set text 4 58) ≡ length text = length-set text 4 58 in
    let seventh : get_or t 7 0 ≡ 58 = get_or-set_same (set text 4 58) 7 58 0 (omega (arith, n, m, l)) in
    let fourth : get_or t 4 0 ≡ 58 =
    get_or-set_other (set text 4 58) 7 4 58 0 (λ h. absurd (omega (arith, h)))
    ∙ get_or-set_same text 4 58 0 (omega (arith, n, m)) in
    All-from_get_or (λ b. b ≢ 0) t 0
    (λ i h. day_plain_at t (day_there t (day_digits t p.1)) (colon_is (get_or t 4 0) fourth)
    (colon_is (get_or t 7 0) seventh) i (omega (arith, n, h)))
  where
    colon_is : (x : ℕ) → x ≡ 58 → x ≢ 0
    colon_is x e = λ h. absurd (omega (arith, e, h))

pub day_plain : (text : List ℕ) (v : Value) → day_in text ≡ Some v → is_day_text v ≡ true
    → HasPlainTexts v
day_plain text v e h = by_test (not (length text == 10) || not (has_day_separators text)) e
  where
    by_test : (b : Bool) → (if b then None else Some (Ascii (set (set text 4 58) 7 58 ∷ []))) ≡ Some v
        → HasPlainTexts v
    by_test true e = absurd (none_some v e)
    by_test false e =
        let same = value_same (Ascii (set (set text 4 58) 7 58 ∷ [])) v e in
        subst HasPlainTexts same
        (one_plain (set (set text 4 58) 7 58) (with_marks text (ap is_day_text same ∙ h)))
