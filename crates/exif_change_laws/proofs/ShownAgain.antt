-- The fraction that a decimal is: its text, and how large it is.
use Rattle.std.proofs.Common.{◌≡◌, ◌<◌, ◌+◌, ◌*◌, ◌/◌, ◌%◌, ◌^◌, ◌==◌, ◌&&◌, ◌∙◌, ℕ, ℤ, zero, suc, pos, neg_ℤ, unsigned_abs, Bool, true, false, not, ◌++◌, if◌then◌else◌, refl, sym, ap, arith}
use Rattle.std.specs.Prelude.{nat_lt}
use Rattle.std.specs.Fmt.{sign_text}
use Rattle.std.specs.Int.{is_negative}
use Rattle.std.proofs.lemmas.Bool.Decides.{nat_tests}
use Rattle.std.proofs.Math.Nat.{add-zero, div-add-mod', eq_of_mul-eq-mul_right, mul_right_comm, mul-pos, zero-mul}
use Rattle.exif_text.specs.Decimal.{decimal_text, signs_differ, srational_decimal}
use Rattle.exif_text.specs.declared.rational.SRational.{SRational}
use Rattle.exif_change_laws.specs.Shown.{as_shown_signed, shortened, shown_fraction}
use Rattle.exif_change_laws.proofs.ShownDecimals.{ten_pos, parts_text}
use Rattle.exif_change_laws.proofs.ShownFractions.{as_large, billionths_again, decimal_parts, denom_pos}

-- ---- the same text

pub denom_not_zero : (k n : ℕ) → ((shortened k n).denom == 0) ≡ false
denom_not_zero k n = let positive : 0 < (shortened k n).denom = denom_pos k n in grind (arith, nat_tests)

-- the text of the fraction that the decimal of two numbers is
again : (negative : Bool) (num denom : ℕ)
    → decimal_text negative (shown_fraction num denom).num (shown_fraction num denom).denom
    ≡ sign_text (negative && not (num * 10 ^ 9 / denom == 0)) ++ parts_text 9 (num * 10 ^ 9 / denom)
again negative num denom =
    let n = num * 10 ^ 9 / denom in
    let s = shortened 9 n in
    decimal_parts negative s.num s.denom (denom_not_zero 9 n)
    ∙ ap (λ m. sign_text (negative && not (m == 0)) ++ parts_text 9 m) (billionths_again 9 n)

pub unsigned_again : (num denom : ℕ) → (denom == 0) ≡ false
    → decimal_text false (shown_fraction num denom).num (shown_fraction num denom).denom
    ≡ decimal_text false num denom
unsigned_again num denom e = again false num denom ∙ sym (decimal_parts false num denom e)

-- a sign by the sign of the number that is shown
pub not_negative : (d : ℕ) → is_negative (pos d) ≡ false
not_negative d = let below : nat_lt d 0 ≡ false = grind (arith, nat_tests) in below

pub positive_denom : (z : ℤ) (d : ℕ) → signs_differ z (pos d) ≡ is_negative z
positive_denom z d =
    ap (λ b. if is_negative z then not b else b) (not_negative d) ∙ itself (is_negative z)
  where
    itself : (b : Bool) → (if b then not false else false) ≡ b
    itself true = refl
    itself false = refl

-- the magnitude of a number with a sign
magnitude : (negative : Bool) (n : ℕ) → unsigned_abs (if negative then neg_ℤ (pos n) else pos n) ≡ n
magnitude false n = refl
magnitude true zero = refl
magnitude true (suc n) = refl

-- a sign is shown of what is not zero
upper_pos : (n power product : ℕ) → n * power ≡ product → 0 < product → 0 < n
upper_pos zero power product e h = absurd (omega (arith, zero-mul power, e, h))
upper_pos (suc n) power product e h = omega arith

sign_shown : (negative : Bool) (k n : ℕ)
    → (is_negative (if negative then neg_ℤ (pos (shortened k n).num) else pos (shortened k n).num) && not (n == 0))
    ≡ (negative && not (n == 0))
sign_shown false k n = ap (λ b. b && not (n == 0)) (not_negative (shortened k n).num)
sign_shown true k n = by_zero (n == 0) refl
  where
    never : (b : Bool) → (b && false) ≡ false
    never true = refl
    never false = refl

    below_zero : (m : ℕ) → 0 < m → is_negative (neg_ℤ (pos m)) ≡ true
    below_zero zero h = absurd (omega (arith, h))
    below_zero (suc m) h = refl

    by_zero : (b : Bool) → (n == 0) ≡ b
        → (is_negative (neg_ℤ (pos (shortened k n).num)) && not b) ≡ not b
    by_zero true e = never (is_negative (neg_ℤ (pos (shortened k n).num)))
    by_zero false e =
        let some : 0 < n = grind (arith, nat_tests) in
        ap (λ b. b && true)
        (below_zero (shortened k n).num
        (upper_pos (shortened k n).num (10 ^ k) (n * (shortened k n).denom) (as_large k n)
        (mul-pos some (denom_pos k n))))

-- the text of the fraction with sign that a decimal is
pub signed_again : (r : SRational) → (unsigned_abs r.denom == 0) ≡ false
    → srational_decimal (as_shown_signed r) ≡ srational_decimal r
signed_again r e =
    let n = unsigned_abs r.num * 10 ^ 9 / unsigned_abs r.denom in
    let s = shortened 9 n in
    let new = as_shown_signed r in
    let differ = signs_differ r.num r.denom in
    ap (λ b. decimal_text b (unsigned_abs new.num) s.denom) (positive_denom new.num s.denom)
    ∙ (ap (λ m. decimal_text (is_negative new.num) m s.denom) (magnitude differ s.num)
    ∙ (again (is_negative new.num) (unsigned_abs r.num) (unsigned_abs r.denom)
    ∙ (ap (λ b. sign_text b ++ parts_text 9 n) (sign_shown differ 9 n)
    ∙ sym (decimal_parts differ (unsigned_abs r.num) (unsigned_abs r.denom) e))))

-- ---- the same number

pub same_number : (num denom : ℕ) → num * 10 ^ 9 % denom ≡ 0
    → (shown_fraction num denom).num * denom ≡ num * (shown_fraction num denom).denom
same_number num denom h = by_power 9 h
  where
    by_power : (k : ℕ) → num * 10 ^ k % denom ≡ 0
        → (shortened k (num * 10 ^ k / denom)).num * denom ≡ num * (shortened k (num * 10 ^ k / denom)).denom
    by_power k h =
        let q = num * 10 ^ k / denom in
        let s = shortened k q in
        let whole : q * denom ≡ num * 10 ^ k =
        sym (add-zero (q * denom)) ∙ (ap (λ m. q * denom + m) (sym h) ∙ div-add-mod' (num * 10 ^ k) denom) in
        eq_of_mul-eq-mul_right (10 ^ k) (ten_pos k) (s.num * denom) (num * s.denom)
        (mul_right_comm s.num denom (10 ^ k)
        ∙ (ap (λ m. m * denom) (as_large k q)
        ∙ (mul_right_comm q s.denom denom
        ∙ (ap (λ m. m * s.denom) whole ∙ mul_right_comm num (10 ^ k) s.denom))))
