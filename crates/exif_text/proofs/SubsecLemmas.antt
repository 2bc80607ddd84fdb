-- The number that digits and zeros behind them spell.
use Rattle.std.proofs.Common.{◌≡◌, ℕ, zero, suc, ◌+◌, ◌-◌, ◌*◌, ◌^◌, ◌<◌, ◌≤◌, true, false, List, [], ◌∷◌, ◌++◌, length, replicate, take, get_or, refl, sym, ap, ◌∙◌, lit<, arith, ⊎_elim}
use Rattle.std.proofs.Math.Nat.{one-le-pow, pow-le-pow_right, mul-le-mul_right}
use Rattle.std.specs.List.{list_all}
use Rattle.std.specs.Char.{is_ascii_digit, digit_value}
use Rattle.std.specs.Str.Parse.{digits_value, digits_value_after}
use Rattle.std.proofs.lemmas.Nat.{pow-add}
use Rattle.std.proofs.lemmas.Bool.{cases_Bool}
use Rattle.std.proofs.lemmas.Bool.Decides.{nat_tests}
use Rattle.std.proofs.lemmas.List.Folds.{list_all_at}
use Rattle.std.proofs.lemmas.Str.{digit_value_digit}
use Rattle.std.proofs.lemmas.Int.Digits.{digits_value_more}
use Rattle.exif_text.proofs.DecimalLemmas.{tenth}

-- each byte is a digit
pub digit_in_range : (ds : List ℕ) (i : ℕ) → list_all is_ascii_digit ds ≡ true → i < length ds → (48 ≤ get_or ds i 0) × (get_or ds i 0 ≤ 57)
digit_in_range ds i all within =
    ⊎_elim
    (λ (yes : is_ascii_digit (get_or ds i 0) ≡ true). (grind (arith, nat_tests), grind (arith, nat_tests)))
    (λ (no : is_ascii_digit (get_or ds i 0) ≡ false). let none = list_all_at is_ascii_digit ds i 0 within no in cc)
    (cases_Bool (is_ascii_digit (get_or ds i 0)))

-- one digit more
pub value_more : (ds : List ℕ) (i : ℕ) → list_all is_ascii_digit ds ≡ true → i < length ds
    → digits_value 10 (take (i + 1) ds) ≡ digits_value 10 (take i ds) * 10 + (get_or ds i 0 - 48)
value_more ds i all within =
    let digit = digit_in_range ds i all within in
    let worth = digit_value_digit (get_or ds i 0) digit in
    omega (arith, digits_value_more 10 ds i within, worth)

shifted : (n p q : ℕ) → q ≡ 10 * p → (n * 10 + 0) * p ≡ n * q
shifted n p q e = rw e (omega arith)

-- zeros behind a number
zeros_after : (n k : ℕ) → digits_value_after 10 n (replicate k 48) ≡ n * 10 ^ k
zeros_after n zero = omega arith
zeros_after n (suc k) =
    let next : digits_value_after 10 (n * 10 + 0) (replicate k 48) ≡ (n * 10 + 0) * 10 ^ k = zeros_after (n * 10 + 0) k in
    next ∙ shifted n (10 ^ k) (10 ^ suc k) (tenth k)

-- digits behind digits
value_after-append : (n : ℕ) (xs ys : List ℕ) → digits_value_after 10 n (xs ++ ys) ≡ digits_value_after 10 (digits_value_after 10 n xs) ys
value_after-append n [] ys = refl
value_after-append n (x ∷ xs) ys = value_after-append (n * 10 + digit_value x) xs ys

-- zeros behind digits
pub value_with_zeros : (ds : List ℕ) (k : ℕ) → digits_value 10 (ds ++ replicate k 48) ≡ digits_value 10 ds * 10 ^ k
value_with_zeros ds k = value_after-append 0 ds (replicate k 48) ∙ zeros_after (digits_value 10 ds) k

rest_below : (n p q : ℕ) → 1 ≤ p → (n + 1) * p ≤ q → n * p < q
rest_below n p q some h = omega (arith, h)

-- nine places are enough
pub place_small : (n i : ℕ) → n < 10 ^ i → i ≤ 9 → n * 10 ^ (9 - i) < 10 ^ 9
place_small n i low few =
    let together : i + (9 - i) ≡ 9 = omega arith in
    let whole : 10 ^ i * 10 ^ (9 - i) ≡ 10 ^ 9 = sym (pow-add 10 i (9 - i)) ∙ ap (λ (k : ℕ). 10 ^ k) together in
    let some : 1 ≤ 10 ^ (9 - i) = one-le-pow (9 - i) 10 (omega arith) in
    let below : (n + 1) * 10 ^ (9 - i) ≤ 10 ^ i * 10 ^ (9 - i) = mul-le-mul_right (10 ^ (9 - i)) (omega arith) in
    rest_below n (10 ^ (9 - i)) (10 ^ 9) some (rw whole at below)

-- nine digits fit
pub next_small : (n i d : ℕ) → n < 10 ^ i → i < 9 → d ≤ 9 → n * 10 + d < 10 ^ 9
next_small n i d low few digit =
    let few : i ≤ 8 = omega arith in
    let some : 0 < 10 = lit< tt in
    let most : 10 ^ i ≤ 10 ^ 8 = pow-le-pow_right some few in
    omega (arith, most)

-- one digit more is one place more
pub next_below : (n i d : ℕ) → n < 10 ^ i → d ≤ 9 → n * 10 + d < 10 ^ (i + 1)
next_below n i d low digit = let tenfold = pow-add 10 i 1 in omega (arith, tenfold)
