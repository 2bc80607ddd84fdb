-- Texts of digits: the numbers that are read of them, and the bytes that they lack.
use Rattle.std.proofs.Common.{◌≡◌, ◌<◌, ◌≤◌, ◌+◌, ◌-◌, ◌*◌, ◌/◌, ◌%◌, ◌^◌, ◌==◌, ◌&&◌, ◌∙◌, ℕ, Bool, true, false, List, [], ◌∷◌, ◌++◌, Some, None, if◌then◌else◌, decimal, option_and_then, eq-eqb, append_assoc, append-nil, refl, sym, ap, arith}
use Rattle.std.specs.Prelude.{nat_lt}
use Rattle.std.specs.Char.{is_ascii_digit}
use Rattle.std.proofs.lemmas.Bool.Decides.{nat_tests}
use Rattle.std.proofs.lemmas.Fmt.{decimal_by_steps}
use Rattle.exif_datetime.specs.Numbers.{cut_behind, digits_below, next_below, number_below}

-- ---- digits

-- a byte is a digit
abbrev pub IsDigit : ℕ → Type 0
IsDigit d = (48 ≤ d) × (d < 58)

-- each byte of a text is one
abbrev pub AreDigits : List ℕ → Type 0
AreDigits [] = Unit {0}
AreDigits (d ∷ ds) = IsDigit d × AreDigits ds

-- the number that digits behind a number make of it
abbrev pub value_behind : ℕ → List ℕ → ℕ
value_behind n [] = n
value_behind n (d ∷ ds) = value_behind (n * 10 + (d - 48)) ds

-- a text has a first byte
abbrev pub IsNotEmpty : List ℕ → Type 0
IsNotEmpty [] = ⊥
IsNotEmpty (d ∷ ds) = Unit {0}

pub digits_append : (xs ys : List ℕ) → AreDigits xs → AreDigits ys → AreDigits (xs ++ ys)
digits_append [] ys h k = k
digits_append (x ∷ xs) ys h k = (h.0, digits_append xs ys h.1 k)

pub value_append : (n : ℕ) (xs ys : List ℕ)
    → value_behind n (xs ++ ys) ≡ value_behind (value_behind n xs) ys
value_append n [] ys = refl
value_append n (x ∷ xs) ys = value_append (n * 10 + (x - 48)) xs ys

pub not_empty_append : (xs ys : List ℕ) → IsNotEmpty xs → IsNotEmpty (xs ++ ys)
not_empty_append [] ys h = absurd h
not_empty_append (x ∷ xs) ys h = tt

not_empty_last : (xs : List ℕ) (y : ℕ) → IsNotEmpty (xs ++ y ∷ [])
not_empty_last [] y = tt
not_empty_last (x ∷ xs) y = tt

value_grows : (n : ℕ) (ds : List ℕ) → n ≤ value_behind n ds
value_grows n [] = omega arith
value_grows n (d ∷ ds) =
    let later : n * 10 + (d - 48) ≤ value_behind (n * 10 + (d - 48)) ds =
    value_grows (n * 10 + (d - 48)) ds in
    omega arith

one_digit : (limit n d : ℕ) → IsDigit d → n * 10 + (d - 48) < limit
    → next_below limit n d ≡ Some (n * 10 + (d - 48))
one_digit limit n d h small =
    by_tests (is_ascii_digit d) (nat_lt (n * 10 + (d - 48)) limit) (grind (arith, nat_tests, h))
    (grind (arith, nat_tests))
  where
    by_tests : (a b : Bool) → a ≡ true → b ≡ true
        → (if a && b then Some (n * 10 + (d - 48)) else None) ≡ Some (n * 10 + (d - 48))
    by_tests a b p q = rw (p, q) refl

-- digits are read as their number, if it is below the limit
pub digits_read : (limit n : ℕ) (ds : List ℕ) → AreDigits ds → value_behind n ds < limit
    → digits_below limit ds n ≡ Some (value_behind n ds)
digits_read limit n [] h small = refl
digits_read limit n (d ∷ ds) h small =
    let grown : n * 10 + (d - 48) ≤ value_behind (n * 10 + (d - 48)) ds =
    value_grows (n * 10 + (d - 48)) ds in
    ap (option_and_then (digits_below limit ds)) (one_digit limit n d h.0 (omega arith))
    ∙ digits_read limit (n * 10 + (d - 48)) ds h.1 small

pub number_read : (limit : ℕ) (ds : List ℕ) → AreDigits ds → IsNotEmpty ds
    → value_behind 0 ds < limit → number_below limit ds ≡ Some (value_behind 0 ds)
number_read limit [] h some small = absurd some
number_read limit (d ∷ ds) h some small = digits_read limit 0 (d ∷ ds) h small

-- ---- what `decimal` writes

-- digits of a number
pub record AreOf (n : ℕ) (ds : List ℕ) : Type 0 where
  pub digits : AreDigits ds
  pub some : IsNotEmpty ds
  pub value : value_behind 0 ds ≡ n

pub decimal_of_number : (n : ℕ) → n < 2 ^ 64 → AreOf n (decimal n)
decimal_of_number n small = decimal_by_steps AreOf one more n small
  where
    one : (n : ℕ) → n < 10 → AreOf n ((48 + n) ∷ [])
    one n h = record { digits = ((omega arith, omega arith), tt); some = tt; value = omega arith }

    more : (n : ℕ) (ds : List ℕ) → 10 ≤ n → AreOf (n / 10) ds → AreOf n (ds ++ ((48 + n % 10) ∷ []))
    more n ds h a =
        let low : n % 10 < 10 = omega arith in
        record {
          digits = digits_append ds ((48 + n % 10) ∷ []) a.digits ((omega arith, omega arith), tt);
          some = not_empty_last ds (48 + n % 10);
          value = value_append 0 ds ((48 + n % 10) ∷ [])
              ∙ (ap (λ m. m * 10 + (48 + n % 10 - 48)) a.value ∙ omega arith);
        }

-- a number is read of its text
pub decimal_read : (limit n : ℕ) → n < 2 ^ 64 → n < limit → number_below limit (decimal n) ≡ Some n
decimal_read limit n h small =
    let a = decimal_of_number n h in
    let v : value_behind 0 (decimal n) ≡ n = a.value in
    number_read limit (decimal n) a.digits a.some (omega arith) ∙ ap (λ m. Some m) v

-- ---- bytes that a text lacks

-- a text lacks a byte
abbrev pub Lacks : ℕ → List ℕ → Type 0
Lacks mark [] = Unit {0}
Lacks mark (x ∷ xs) = ((x == mark) ≡ false) × Lacks mark xs

pub lacks_append : (mark : ℕ) (xs ys : List ℕ) → Lacks mark xs → Lacks mark ys
    → Lacks mark (xs ++ ys)
lacks_append mark [] ys h k = k
lacks_append mark (x ∷ xs) ys h k = (h.0, lacks_append mark xs ys h.1 k)

-- digits lack what is before the digit 0
pub digits_lack : (mark : ℕ) → mark < 48 → (ds : List ℕ) → AreDigits ds → Lacks mark ds
digits_lack mark low [] h = tt
digits_lack mark low (d ∷ ds) h =
    let least : 48 ≤ d = h.0.0 in
    (grind (arith, nat_tests), digits_lack mark low ds h.1)

-- a text is cut at its first mark
pub cut_there : (mark : ℕ) (before xs ys : List ℕ) → Lacks mark xs
    → cut_behind mark before (xs ++ mark ∷ ys) ≡ Some (before ++ xs, ys)
cut_there mark before [] ys h =
    let here : (mark == mark) ≡ true = eq-eqb mark mark refl in
    rw here (ap (λ front. Some (front, ys)) (sym (append-nil before)))
cut_there mark before (x ∷ xs) ys h =
    rw (h.0)
    (cut_there mark (before ++ x ∷ []) xs ys h.1
    ∙ ap (λ front. Some (front, ys)) (append_assoc before (x ∷ []) xs))

pub cut_nowhere : (mark : ℕ) (before xs : List ℕ) → Lacks mark xs
    → cut_behind mark before xs ≡ None
cut_nowhere mark before [] h = refl
cut_nowhere mark before (x ∷ xs) h = rw (h.0) (cut_nowhere mark (before ++ x ∷ []) xs h.1)
