-- The digits of a fraction, one place at a time.
use Rattle.std.proofs.Common.{◌≡◌, ℕ, zero, suc, ◌+◌, ◌*◌, ◌/◌, ◌%◌, ◌^◌, ◌<◌, ◌≤◌, List, [], ◌∷◌, refl, ◌∙◌, arith, ⊎_elim}
use Rattle.std.proofs.Math.Nat.{pow-suc, zero-mod, one-le-pow}
use Rattle.std.proofs.lemmas.Bool.{cases_lt}
use Rattle.std.proofs.lemmas.Bool.Decides.{nat_tests}
use Rattle.exif_text.specs.Decimal.{in_digits, without_last_zeros, push_unless_last_zero}

-- a power of ten is ten times the one below
pub tenth : (k : ℕ) → 10 ^ suc k ≡ 10 * 10 ^ k
tenth k = omega (arith, pow-suc 10 k)

place_pos : (k : ℕ) → 0 < 10 ^ k
place_pos k = one-le-pow k 10 (omega arith)

-- zeros alone leave nothing
no_digits : (k : ℕ) → without_last_zeros (in_digits k 0) ≡ []
unfolding in_digits without_last_zeros
no_digits zero = refl
no_digits (suc k) =
    let first : 48 + 0 / 10 ^ k ≡ 48 = omega (arith, place_pos k) in
    let rest : 0 % 10 ^ k ≡ 0 = zero-mod (10 ^ k) in
    rw (rest, no_digits k, first)

-- something is left
abbrev IsLeft : List ℕ → Type 0
IsLeft xs = (d : ℕ) × (ds : List ℕ) × (xs ≡ d ∷ ds)

push_left : (d : ℕ) (xs : List ℕ) → IsLeft xs → push_unless_last_zero d xs ≡ d ∷ xs
push_left d xs (e, es, is) = rw is

push_last : (d : ℕ) → 48 < d → push_unless_last_zero d [] ≡ d ∷ []
push_last d h = grind (arith, nat_tests)

-- of a number that is not 0
some_digits : (k n : ℕ) → 0 < n → n < 10 ^ k → IsLeft (without_last_zeros (in_digits k n))
unfolding in_digits without_last_zeros
some_digits zero n low high = absurd (omega arith)
some_digits (suc k) n low high =
    let place = place_pos k in
    ⊎_elim
    (λ (none : n % 10 ^ k < 1).
    let zeros : n % 10 ^ k ≡ 0 = omega arith in
    let first : 0 < n / 10 ^ k = grind arith in
    (48 + n / 10 ^ k, [], rw (zeros, no_digits k) (push_last _ (omega arith))))
    (λ (some : 1 ≤ n % 10 ^ k).
    let rest = some_digits k (n % 10 ^ k) some (omega arith) in
    (48 + n / 10 ^ k, without_last_zeros (in_digits k (n % 10 ^ k)), push_left _ _ rest))
    (cases_lt (n % 10 ^ k) 1)

-- the last place
pub fraction_last : (k n place : ℕ) → place ≡ 10 ^ k → 0 < n → n % place ≡ 0 → without_last_zeros (in_digits (suc k) n) ≡ (48 + n / place) ∷ []
unfolding in_digits without_last_zeros
fraction_last k n place e some none =
    let pos = place_pos k in
    let zeros : n % 10 ^ k ≡ 0 = rw (← e) none in
    let first : 0 < n / 10 ^ k = grind arith in
    rw (e, zeros, no_digits k) (push_last _ (omega arith))

-- where something is left, a place is left for it
pub fraction_more : (k n place : ℕ) → place ≡ 10 ^ k → (n % place ≡ 0 → ⊥)
    → (j : ℕ) × (place ≡ 10 * 10 ^ j) × (without_last_zeros (in_digits (suc k) n) ≡ (48 + n / place) ∷ without_last_zeros (in_digits (suc j) (n % place)))
unfolding in_digits without_last_zeros
fraction_more zero n place e some = absurd (some (rw e (omega arith)))
fraction_more (suc j) n place e some =
    let pos = place_pos (suc j) in
    let rest = some_digits (suc j) (n % 10 ^ suc j) (rw (← e) (omega arith)) (omega arith) in
    (j, e ∙ tenth j, rw e (push_left _ _ rest))
