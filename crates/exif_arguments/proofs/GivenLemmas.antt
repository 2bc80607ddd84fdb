-- Numbers that texts spell.
use Rattle.std.proofs.Common.{◌≡◌, ℕ, ◌<◌, ◌^◌, List, [], ◌∷◌, length, Bool, true, false, nat_lt, refl, ◌&&◌, Some, None}
use Rattle.std.proofs.lemmas.Bool.{ltb-true, lt-ltb}
use Rattle.std.specs.Char.{digit_value}
use Rattle.std.specs.List.{list_all}
use Rattle.std.specs.Prelude.{if◌then◌else◌}
use Rattle.std.specs.Str.Parse.{AllDigits, IsNumeral, digits_value}
use Rattle.exif_arguments.specs.Given.{are_digits, number_by}

-- the parts of two tests that hold
both : (a b : Bool) → (a && b) ≡ true → (a ≡ true) × (b ≡ true)
both true b e = (refl, e)
both false b e = cc

three : (a b c : Bool) → a ≡ true → b ≡ true → c ≡ true → (a && (b && c)) ≡ true
three a b c p q r = rw (p, q, r) refl

-- digits pass the test
digits-test : (ds : List ℕ) → AllDigits 10 ds → list_all (λ d. nat_lt (digit_value d) 10) ds ≡ true
digits-test [] all = refl
digits-test (d ∷ ds) all = rw (lt-ltb (digit_value d) 10 all.0, digits-test ds all.1) refl

-- and what passes it are digits
test-digits : (ds : List ℕ) → list_all (λ d. nat_lt (digit_value d) 10) ds ≡ true → AllDigits 10 ds
test-digits [] all = tt
test-digits (d ∷ ds) all =
    let parts = both (nat_lt (digit_value d) 10) (list_all (λ d. nat_lt (digit_value d) 10) ds) all in
    (ltb-true (digit_value d) 10 parts.0, test-digits ds parts.1)

-- a numeral of at most 64 bits passes, and what passes is one
numeral-test : (ds : List ℕ) → IsNumeral 10 ds × (digits_value 10 ds < 2 ^ 64) → are_digits ds ≡ true
numeral-test ds numeral =
    three (nat_lt 0 (length ds)) (list_all (λ d. nat_lt (digit_value d) 10) ds) (nat_lt (digits_value 10 ds) (2 ^ 64))
    (lt-ltb 0 (length ds) numeral.0.0) (digits-test ds numeral.0.1) (lt-ltb (digits_value 10 ds) (2 ^ 64) numeral.1)

test-numeral : (ds : List ℕ) → are_digits ds ≡ true → IsNumeral 10 ds × (digits_value 10 ds < 2 ^ 64)
test-numeral ds e =
    let all = both (nat_lt 0 (length ds)) (list_all (λ d. nat_lt (digit_value d) 10) ds && nat_lt (digits_value 10 ds) (2 ^ 64)) e in
    let rest = both (list_all (λ d. nat_lt (digit_value d) 10) ds) (nat_lt (digits_value 10 ds) (2 ^ 64)) all.1 in
    ((ltb-true 0 (length ds) all.0, test-digits ds rest.0), ltb-true (digits_value 10 ds) (2 ^ 64) rest.1)

-- the number of such a numeral, and none of other texts
pub number-some : (ds : List ℕ) (v : ℕ) → IsNumeral 10 ds × (digits_value 10 ds < 2 ^ 64) → v ≡ digits_value 10 ds → Some v ≡ number_by ds
number-some ds v numeral e = rw (e, numeral-test ds numeral) refl

chosen : (b : Bool) (v : ℕ) → (b ≡ true → ⊥) → None ≡ (if b then Some v else None)
chosen true v not = absurd (not refl)
chosen false v not = refl

pub number-none : (ds : List ℕ) → ¬ (IsNumeral 10 ds × (digits_value 10 ds < 2 ^ 64)) → None ≡ number_by ds
number-none ds not = chosen (are_digits ds) (digits_value 10 ds) (λ e. not (test-numeral ds e))
