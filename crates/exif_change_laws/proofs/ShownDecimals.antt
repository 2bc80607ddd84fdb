-- Decimals that are read as the fractions that they are.
use Rattle.std.proofs.Common.{◌≡◌, ◌<◌, ◌≤◌, ◌+◌, ◌-◌, ◌*◌, ◌/◌, ◌%◌, ◌^◌, ◌==◌, ◌∙◌, ℕ, zero, suc, Bool, true, false, List, [], ◌∷◌, ◌++◌, length, Option, Some, None, if◌then◌else◌, decimal, option_and_then, option_map, append-nil, refl, sym, ap, subst, arith}
use Rattle.std.specs.Prelude.{nat_le, nat_lt}
use Rattle.std.proofs.lemmas.Bool.Decides.{nat_tests}
use Rattle.std.proofs.Math.Nat.{add-mul, add_assoc, div-add-mod', div-div-eq-div-mul, div-lt_iff_lt-mul, div-one, div-le_self, dvd-mul_left, mod-eq_of_lt, mod-lt, mod-mod_of_dvd, mod-one, mul-add-div_right, mul-add-mod_self_right, mul_comm, mul_assoc, one-le-pow, pow-suc}
use Rattle.exif_text.specs.Decimal.{in_digits, push_unless_last_zero, without_last_zeros}
use Rattle.exif_text.specs.declared.rational.Rational.{Rational}
use Rattle.exif_datetime.specs.Numbers.{cut}
use Rattle.exif_change_laws.specs.Shown.{shortened}
use Rattle.exif_assign.specs.Texts.{decimal_in, decimal_of, fraction, point_fraction, small_fraction, u32_in}
use Rattle.exif_change_laws.proofs.ShownDigits.{AreDigits, IsNotEmpty, cut_nowhere, cut_there, decimal_of_number, decimal_read, digits_lack, number_read, value_behind}

-- ---- powers of ten

pub ten_pos : (k : ℕ) → 0 < 10 ^ k
ten_pos k = one-le-pow k 10 (omega arith)

next_power : (k : ℕ) → 10 ^ suc k ≡ 10 ^ k * 10
next_power k = pow-suc 10 k

-- a quotient by ten, and then by a power
divided : (k n : ℕ) → n / 10 ^ suc k ≡ n / 10 / 10 ^ k
divided k n =
    ap (λ m. n / m) (next_power k ∙ mul_comm (10 ^ k) 10) ∙ sym (div-div-eq-div-mul n 10 (10 ^ k))

-- the last digit of a remainder
last_kept : (k n : ℕ) → n % 10 ^ suc k % 10 ≡ n % 10
last_kept k n =
    ap (λ m. n % m % 10) (next_power k) ∙ mod-mod_of_dvd 10 n (dvd-mul_left 10 (10 ^ k))

-- the digits of a remainder before its last
front_kept : (k n : ℕ) → n % 10 ^ suc k / 10 ≡ n / 10 % 10 ^ k
front_kept k n =
    let p = 10 ^ k in
    let positive : 0 < 10 ^ k = ten_pos k in
    let ten : 0 < 10 = omega arith in
    let at : 10 ^ suc k ≡ 10 ^ k * 10 = next_power k in
    let q = n / (p * 10) in
    let r = n % (p * 10) in
    let small : r < p * 10 = mod-lt n (omega (arith, positive)) in
    let low : r / 10 < p = (div-lt_iff_lt-mul {x = r} {y = p} ten).1 small in
    let parts : n ≡ q * p * 10 + r =
    sym (div-add-mod' n (p * 10)) ∙ ap (λ m. m + r) (sym (mul_assoc q p 10)) in
    ap (λ m. n % m / 10) at
    ∙ sym (ap (λ m. m / 10 % p) parts
    ∙ (ap (λ m. m % p) (mul-add-div_right ten (q * p) r)
    ∙ (mul-add-mod_self_right q p (r / 10) ∙ mod-eq_of_lt low)))

-- ---- digits behind a point

pub digits_in : (k n : ℕ) → n < 10 ^ k → AreDigits (in_digits k n)
unfolding in_digits
digits_in zero n h = tt
digits_in (suc k) n h =
    let small : n < 10 ^ k * 10 = subst (λ m. n < m) (next_power k) h in
    let low : n / 10 ^ k < 10 =
    (div-lt_iff_lt-mul {x = n} {y = 10} (ten_pos k)).1 (subst (λ m. n < m) (mul_comm (10 ^ k) 10) small) in
    ((omega arith, omega arith), digits_in k (n % 10 ^ k) (mod-lt n (ten_pos k)))

length_in : (k n : ℕ) → length (in_digits k n) ≡ k
unfolding in_digits
length_in zero n = refl
length_in (suc k) n = ap suc (length_in k (n % 10 ^ k))

value_in_digits : (k n m : ℕ) → n < 10 ^ k → value_behind m (in_digits k n) ≡ m * 10 ^ k + n
unfolding in_digits
value_in_digits zero n m h = omega (arith, h)
value_in_digits (suc k) n m h =
    let low = value_in_digits k (n % 10 ^ k) (m * 10 + (48 + n / 10 ^ k - 48)) (mod-lt n (ten_pos k)) in
    let d : 48 + n / 10 ^ k - 48 ≡ n / 10 ^ k = omega arith in
    let parts : n / 10 ^ k * 10 ^ k + n % 10 ^ k ≡ n = div-add-mod' n (10 ^ k) in
    let split : (m * 10 + n / 10 ^ k) * 10 ^ k ≡ m * 10 * 10 ^ k + n / 10 ^ k * 10 ^ k =
    add-mul (m * 10) (n / 10 ^ k) (10 ^ k) in
    let shift : m * 10 ^ suc k ≡ m * 10 * 10 ^ k =
    ap (λ x. m * x) (next_power k ∙ mul_comm (10 ^ k) 10) ∙ sym (mul_assoc m 10 (10 ^ k)) in
    low
    ∙ (ap (λ x. (m * 10 + x) * 10 ^ k + n % 10 ^ k) d
    ∙ (ap (λ x. x + n % 10 ^ k) split
    ∙ (add_assoc (m * 10 * 10 ^ k) (n / 10 ^ k * 10 ^ k) (n % 10 ^ k)
    ∙ (ap (λ x. m * 10 * 10 ^ k + x) parts ∙ ap (λ x. x + n) (sym shift)))))

-- the last digit
last_digit : (k n : ℕ) → n < 10 ^ suc k → in_digits (suc k) n ≡ in_digits k (n / 10) ++ (48 + n % 10) ∷ []
unfolding in_digits
last_digit zero n h =
    let whole : n / 1 ≡ n = div-one n in
    let small : n % 10 ≡ n = mod-eq_of_lt h in
    ap (λ m. (48 + m) ∷ []) (whole ∙ sym small)
last_digit (suc k) n h =
    ap (λ ds. (48 + n / 10 ^ suc k) ∷ ds) (last_digit k (n % 10 ^ suc k) (mod-lt n (ten_pos (suc k))))
    ∙ (ap (λ m. (48 + m) ∷ (in_digits k (n % 10 ^ suc k / 10) ++ (48 + n % 10 ^ suc k % 10) ∷ [])) (divided k n)
    ∙ (ap (λ m. (48 + n / 10 / 10 ^ k) ∷ (in_digits k m ++ (48 + n % 10 ^ suc k % 10) ∷ [])) (front_kept k n)
    ∙ ap (λ m. (48 + n / 10 / 10 ^ k) ∷ (in_digits k (n / 10 % 10 ^ k) ++ (48 + m) ∷ [])) (last_kept k n)))

-- ---- zeros at the end

zero_dropped : (ds : List ℕ) → without_last_zeros (ds ++ 48 ∷ []) ≡ without_last_zeros ds
unfolding without_last_zeros
zero_dropped [] = refl
zero_dropped (d ∷ ds) = ap (push_unless_last_zero d) (zero_dropped ds)

pushed : (d : ℕ) (ds : List ℕ) (e : ℕ) → push_unless_last_zero d (ds ++ e ∷ []) ≡ d ∷ (ds ++ e ∷ [])
pushed d [] e = refl
pushed d (x ∷ xs) e = refl

no_zero : (ds : List ℕ) (d : ℕ) → (d == 48) ≡ false → without_last_zeros (ds ++ d ∷ []) ≡ ds ++ d ∷ []
unfolding without_last_zeros
no_zero [] d h = rw h refl
no_zero (x ∷ xs) d h = ap (push_unless_last_zero x) (no_zero xs d h) ∙ pushed x xs d

pub digits_without : (ds : List ℕ) → AreDigits ds → AreDigits (without_last_zeros ds)
unfolding without_last_zeros
digits_without [] h = tt
digits_without (d ∷ ds) h = by_rest (without_last_zeros ds) (digits_without ds h.1)
  where
    by_test : (b : Bool) → AreDigits (if b then [] else d ∷ [])
    by_test true = tt
    by_test false = (h.0, tt)

    by_rest : (xs : List ℕ) → AreDigits xs → AreDigits (push_unless_last_zero d xs)
    by_rest [] k = by_test (d == 48)
    by_rest (x ∷ xs) k = (h.0, k)

-- ---- whole texts

-- what is behind the whole part, with k digits at most
abbrev pub tail_of : ℕ → ℕ → List ℕ
tail_of k n = if n == 0 then [] else 46 ∷ without_last_zeros (in_digits k n)

-- n parts of 10 ^ k as a decimal
abbrev pub parts_text : ℕ → ℕ → List ℕ
parts_text k n = decimal (n / 10 ^ k) ++ tail_of k (n % 10 ^ k)

-- a zero at the end is not shown
tail_shorter : (k n : ℕ) → n % 10 ≡ 0 → tail_of (suc k) (n % 10 ^ suc k) ≡ tail_of k (n / 10 % 10 ^ k)
tail_shorter k n h =
    let b = n % 10 ^ suc k in
    let front : b / 10 ≡ n / 10 % 10 ^ k = front_kept k n in
    let last : b % 10 ≡ 0 = last_kept k n ∙ h in
    let same : (b == 0) ≡ (n / 10 % 10 ^ k == 0) = zero_alike b (n / 10 % 10 ^ k) front last in
    let digits : without_last_zeros (in_digits (suc k) b) ≡ without_last_zeros (in_digits k (n / 10 % 10 ^ k)) =
    ap without_last_zeros
    (last_digit k b (mod-lt n (ten_pos (suc k)))
    ∙ (ap (λ m. in_digits k (b / 10) ++ (48 + m) ∷ []) last ∙ ap (λ m. in_digits k m ++ 48 ∷ []) front))
    ∙ zero_dropped (in_digits k (n / 10 % 10 ^ k)) in
    ap (λ t. if t then [] else 46 ∷ without_last_zeros (in_digits (suc k) b)) same
    ∙ ap (λ ds. if n / 10 % 10 ^ k == 0 then [] else 46 ∷ ds) digits
  where
    zero_alike : (b c : ℕ) → b / 10 ≡ c → b % 10 ≡ 0 → (b == 0) ≡ (c == 0)
    zero_alike b c e h = grind (arith, nat_tests)

-- what is behind a whole part, where the last digit is no zero
tail_whole : (k n : ℕ) → (n % 10 == 0) ≡ false → tail_of (suc k) (n % 10 ^ suc k) ≡ 46 ∷ in_digits (suc k) (n % 10 ^ suc k)
tail_whole k n h =
    let b = n % 10 ^ suc k in
    let last : b % 10 ≡ n % 10 = last_kept k n in
    let apart : (48 + b % 10 == 48) ≡ false = other (n % 10) (b % 10) last h in
    let there : (b == 0) ≡ false = some b (n % 10) last h in
    let ends : in_digits (suc k) b ≡ in_digits k (b / 10) ++ (48 + b % 10) ∷ [] =
    last_digit k b (mod-lt n (ten_pos (suc k))) in
    ap (λ t. if t then [] else 46 ∷ without_last_zeros (in_digits (suc k) b)) there
    ∙ ap (λ ds. 46 ∷ ds)
    (ap without_last_zeros ends ∙ (no_zero (in_digits k (b / 10)) (48 + b % 10) apart ∙ sym ends))
  where
    other : (m b : ℕ) → b ≡ m → (m == 0) ≡ false → (48 + b == 48) ≡ false
    other m b e h = grind (arith, nat_tests)

    some : (b m : ℕ) → b % 10 ≡ m → (m == 0) ≡ false → (b == 0) ≡ false
    some b m e h = grind (arith, nat_tests)

-- ---- reading

-- a word without a point, and one with a point
uncut : (word : List ℕ) → cut 46 word ≡ None
    → decimal_in word ≡ option_map (λ whole. fraction whole 1) (u32_in word)
uncut word e =
    ap (λ x. elim x as (λ _. Option Rational) [
      | Some parts ↦ decimal_of parts
      | None ↦ option_map (λ whole. fraction whole 1) (u32_in word)
    ]) e

pointed : (word front digits : List ℕ) → cut 46 word ≡ Some (front, digits)
    → decimal_in word ≡ decimal_of (front, digits)
pointed word front digits e =
    ap (λ x. elim x as (λ _. Option Rational) [
      | Some parts ↦ decimal_of parts
      | None ↦ option_map (λ whole. fraction whole 1) (u32_in word)
    ]) e

-- a whole number
whole_read : (n : ℕ) → n < 2 ^ 32 → decimal_in (decimal n) ≡ Some (fraction n 1)
whole_read n h =
    let a = decimal_of_number n (omega arith) in
    uncut (decimal n) (cut_nowhere 46 [] (decimal n) (digits_lack 46 (omega arith) (decimal n) a.digits))
    ∙ ap (option_map (λ whole. fraction whole 1)) (decimal_read 4294967296 n (omega arith) (omega arith))

-- a whole part, and digits behind its point
point_read : (whole n : ℕ) (ds : List ℕ) → AreDigits ds → IsNotEmpty ds → length ds ≤ 9
    → value_behind 0 ds < 10 ^ length ds → whole * 10 ^ length ds + value_behind 0 ds ≡ n
    → whole < 2 ^ 32 → n < 2 ^ 32
    → decimal_in (decimal whole ++ 46 ∷ ds) ≡ Some (fraction n (10 ^ length ds))
point_read whole n ds digits some few below is w h =
    let a = decimal_of_number whole (omega arith) in
    let front : u32_in (decimal whole) ≡ Some whole = decimal_read 4294967296 whole (omega arith) (omega arith) in
    let fits : nat_le (length ds) 9 ≡ true = fits_in (length ds) few in
    let small : nat_lt n 4294967296 ≡ true = is_small n h in
    pointed (decimal whole ++ 46 ∷ ds) (decimal whole) ds
    (cut_there 46 [] (decimal whole) ds (digits_lack 46 (omega arith) (decimal whole) a.digits))
    ∙ (ap (λ t. if t then option_and_then (λ whole. point_fraction whole ds) (u32_in (decimal whole)) else None) fits
    ∙ (ap (option_and_then (λ whole. point_fraction whole ds)) front
    ∙ (ap (option_and_then (λ part. small_fraction (whole * 10 ^ length ds + part) (10 ^ length ds)))
    (number_read (10 ^ length ds) ds digits some below)
    ∙ (ap (λ m. small_fraction m (10 ^ length ds)) is
    ∙ ap (λ t. if t then Some (fraction n (10 ^ length ds)) else None) small))))
  where
    fits_in : (m : ℕ) → m ≤ 9 → nat_le m 9 ≡ true
    fits_in m h = grind (arith, nat_tests)

    is_small : (n : ℕ) → n < 2 ^ 32 → nat_lt n 4294967296 ≡ true
    is_small n h = grind (arith, nat_tests)

-- the same of the digits of a remainder
digits_there : (k n : ℕ) → IsNotEmpty (in_digits (suc k) n)
unfolding in_digits
digits_there k n = tt

parts_there : (k n : ℕ) → suc k ≤ 9 → n < 2 ^ 32
    → decimal_in (decimal (n / 10 ^ suc k) ++ 46 ∷ in_digits (suc k) (n % 10 ^ suc k))
    ≡ Some (fraction n (10 ^ suc k))
parts_there k n few h =
    let b = n % 10 ^ suc k in
    let small : b < 10 ^ suc k = mod-lt n (ten_pos (suc k)) in
    let long : length (in_digits (suc k) b) ≡ suc k = length_in (suc k) b in
    let value : value_behind 0 (in_digits (suc k) b) ≡ b =
    value_in_digits (suc k) b 0 small ∙ omega arith in
    let w : n / 10 ^ suc k ≤ n = div-le_self n (10 ^ suc k) in
    let is : n / 10 ^ suc k * 10 ^ length (in_digits (suc k) b) + value_behind 0 (in_digits (suc k) b) ≡ n =
    ap (λ m. n / 10 ^ suc k * 10 ^ m + value_behind 0 (in_digits (suc k) b)) long
    ∙ (ap (λ m. n / 10 ^ suc k * 10 ^ suc k + m) value ∙ div-add-mod' n (10 ^ suc k)) in
    let below : value_behind 0 (in_digits (suc k) b) < 10 ^ length (in_digits (suc k) b) =
    subst (λ m. value_behind 0 (in_digits (suc k) b) < 10 ^ m) (sym long)
    (subst (λ m. m < 10 ^ suc k) (sym value) small) in
    point_read (n / 10 ^ suc k) n (in_digits (suc k) b) (digits_in (suc k) b small) (digits_there k b)
    (omega (arith, long)) below is (omega arith) h
    ∙ ap (λ m. Some (fraction n (10 ^ m))) long

-- the parts of 10 ^ k are read as the fraction without zeros at its end
pub parts_read : (k n : ℕ) → k ≤ 9 → (shortened k n).num < 2 ^ 32
    → decimal_in (parts_text k n) ≡ Some (shortened k n)
unfolding shortened
parts_read zero n few h =
    let whole : n / 1 ≡ n = div-one n in
    let rest : n % 1 ≡ 0 = mod-one n in
    rw (whole, rest) (ap decimal_in (append-nil (decimal n)) ∙ whole_read n h)
parts_read (suc k) n few h =
    by_last (n % 10 == 0) refl (parts_read k (n / 10) (omega arith)) h
  where
    by_last : (b : Bool) → (n % 10 == 0) ≡ b
        → ((shortened k (n / 10)).num < 2 ^ 32 → decimal_in (parts_text k (n / 10)) ≡ Some (shortened k (n / 10)))
        → (if b then shortened k (n / 10) else fraction n (10 ^ suc k)).num < 2 ^ 32
        → decimal_in (parts_text (suc k) n) ≡ Some (if b then shortened k (n / 10) else fraction n (10 ^ suc k))
    by_last true e r h =
        let last : n % 10 ≡ 0 = grind (arith, nat_tests) in
        ap (λ m. decimal_in (decimal m ++ tail_of (suc k) (n % 10 ^ suc k))) (divided k n)
        ∙ (ap (λ xs. decimal_in (decimal (n / 10 / 10 ^ k) ++ xs)) (tail_shorter k n last)
        ∙ r h)
    by_last false e r h =
        ap (λ xs. decimal_in (decimal (n / 10 ^ suc k) ++ xs)) (tail_whole k n e)
        ∙ parts_there k n few h
