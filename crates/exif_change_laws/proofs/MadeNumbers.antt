-- Numbers and fractions that are read of texts are in the ranges of their types.
use Rattle.std.proofs.Common.{◌≡◌, ◌<◌, ◌≤◌, ◌+◌, ◌-◌, ◌*◌, ◌/◌, ◌%◌, ◌^◌, ◌==◌, ◌&&◌, ℕ, ℤ, zero, suc, pos, negsuc, neg_ℤ, Bool, true, false, All, List, [], ◌∷◌, ◌++◌, length, take, min, Option, Some, None, if◌then◌else◌, option_and_then, option_map, length-take, refl, subst, arith}
use Rattle.std.specs.Prelude.{nat_le, nat_lt}
use Rattle.std.specs.Char.{is_ascii_digit}
use Rattle.std.proofs.lemmas.Bool.{and_parts}
use Rattle.std.proofs.lemmas.Bool.Decides.{nat_tests}
use Rattle.std.proofs.lemmas.List.Elements.{All-nil, All-cons, All-push}
use Rattle.std.proofs.Math.Nat.{div-le_self, mod-lt, pow-le-pow_right}
use Rattle.exif_text.specs.declared.rational.Rational.{Rational as Fraction}
use Rattle.exif_text.specs.declared.rational.SRational.{SRational as SignedFraction}
use Rattle.exif_datetime.specs.Numbers.{cut, digits_below, next_below, number_below}
use Rattle.exif_assign.specs.Texts.{Quotient, decimal_in, decimal_of, fraction, fraction_of, is_separator, items_behind, items_in, not_empty, point_fraction, rational_in, signed_below, signed_fraction, small_fraction, srational_in, u32_in, with_word}
use Rattle.exif_assign.specs.Values.{decimal_degrees, degrees_in, parts_of}

-- ---- what an option holds

-- holds of what is there
abbrev pub IfThere : {A : Type 0} → (A → Type 0) → Option A → Type 0
IfThere P None = Unit {0}
IfThere P (Some x) = P x

pub there : {A : Type 0} (P : A → Type 0) (o : Option A) (x : A) → o ≡ Some x → IfThere P o → P x
there P o x e h = subst (IfThere P) e h

-- of what is made of it
pub mapped : {A B : Type 0} (P : A → Type 0) (Q : B → Type 0) (make : A → B) (o : Option A)
    → ((x : A) → P x → Q (make x)) → IfThere P o → IfThere Q (option_map make o)
mapped P Q make None h k = tt
mapped P Q make (Some x) h k = h x k

pub chained : {A B : Type 0} (P : A → Type 0) (Q : B → Type 0) (next : A → Option B) (o : Option A)
    → ((x : A) → P x → IfThere Q (next x)) → IfThere P o → IfThere Q (option_and_then next o)
chained P Q next None h k = tt
chained P Q next (Some x) h k = h x k

-- ---- numbers

next_small : (limit n d : ℕ) → IfThere (λ m. m < limit) (next_below limit n d)
next_small limit n d =
    by_test (is_ascii_digit d && nat_lt (n * 10 + (d - 48)) limit) refl
  where
    by_test : (b : Bool) → (is_ascii_digit d && nat_lt (n * 10 + (d - 48)) limit) ≡ b
        → IfThere (λ m. m < limit) (if b then Some (n * 10 + (d - 48)) else None)
    by_test true e =
        let p = and_parts (is_ascii_digit d) (nat_lt (n * 10 + (d - 48)) limit) e in
        below (n * 10 + (d - 48)) p.1
      where
        below : (m : ℕ) → nat_lt m limit ≡ true → m < limit
        below m e = grind (arith, nat_tests)
    by_test false e = tt

digits_small : (limit : ℕ) (ds : List ℕ) (n : ℕ) → n < limit
    → IfThere (λ m. m < limit) (digits_below limit ds n)
digits_small limit [] n h = h
digits_small limit (d ∷ ds) n h =
    chained (λ m. m < limit) (λ m. m < limit) (digits_below limit ds) (next_below limit n d)
    (λ m k. digits_small limit ds m k) (next_small limit n d)

pub number_small : (limit : ℕ) (text : List ℕ) → IfThere (λ n. n < limit) (number_below limit text)
number_small limit [] = tt
number_small limit (d ∷ ds) =
    chained (λ m. m < limit) (λ m. m < limit) (digits_below limit ds) (next_below limit 0 d)
    (λ m k. digits_small limit ds m k) (next_small limit 0 d)

-- a number from -n to n - 1
abbrev pub IsSigned : ℕ → ℤ → Type 0
IsSigned n (pos m) = m < n
IsSigned n (negsuc m) = m < n

negated : (limit n : ℕ) → 0 < limit → n < limit + 1 → IsSigned limit (neg_ℤ (pos n))
negated limit zero some h = some
negated limit (suc n) some h = omega arith

pub signed_small : (limit : ℕ) → 0 < limit → (text : List ℕ) → IfThere (IsSigned limit) (signed_below limit text)
signed_small limit some [] = tt
signed_small limit some (sign ∷ digits) = by_test (sign == 45)
  where
    by_test : (b : Bool) → IfThere (IsSigned limit) (if b then option_map (λ n. neg_ℤ (pos n)) (number_below (limit + 1) digits) else option_map pos (number_below limit (sign ∷ digits)))
    by_test true =
        mapped (λ n. n < limit + 1) (IsSigned limit) (λ n. neg_ℤ (pos n)) (number_below (limit + 1) digits)
        (λ n h. negated limit n some h) (number_small (limit + 1) digits)
    by_test false =
        mapped (λ n. n < limit) (IsSigned limit) pos (number_below limit (sign ∷ digits)) (λ n h. h)
        (number_small limit (sign ∷ digits))

-- ---- fractions

-- both numbers have 32 bits
abbrev pub IsSmall : Fraction → Type 0
IsSmall r = (r.num < 2 ^ 32) × (r.denom < 2 ^ 32)

-- ten to the ninth at most
power_small : (k : ℕ) → k ≤ 9 → 10 ^ k < 2 ^ 32
power_small k few = let most : 10 ^ k ≤ 10 ^ 9 = pow-le-pow_right (omega arith) few in omega arith

pub quotient_small : (parts : List ℕ × List ℕ) → IfThere IsSmall (fraction_of parts)
quotient_small (upper, lower) =
    chained (λ n. n < 2 ^ 32) IsSmall (λ num. option_map (fraction num) (u32_in lower)) (u32_in upper)
    (λ num h. mapped (λ n. n < 2 ^ 32) IsSmall (fraction num) (u32_in lower) (λ denom k. (h, k)) (number_small (2 ^ 32) lower))
    (number_small (2 ^ 32) upper)

point_small : (whole : ℕ) (digits : List ℕ) → length digits ≤ 9 → IfThere IsSmall (point_fraction whole digits)
point_small whole digits few =
    chained (λ n. n < 10 ^ length digits) IsSmall
    (λ part. small_fraction (whole * 10 ^ length digits + part) (10 ^ length digits))
    (number_below (10 ^ length digits) digits)
    (λ part h. by_test (whole * 10 ^ length digits + part) (nat_lt (whole * 10 ^ length digits + part) 4294967296) refl)
    (number_small (10 ^ length digits) digits)
  where
    by_test : (n : ℕ) (b : Bool) → nat_lt n 4294967296 ≡ b
        → IfThere IsSmall (if b then Some (fraction n (10 ^ length digits)) else None)
    by_test n true e =
        let below : n < 2 ^ 32 = grind (arith, nat_tests) in (below, power_small (length digits) few)
    by_test n false e = tt

decimal_small : (parts : List ℕ × List ℕ) → IfThere IsSmall (decimal_of parts)
decimal_small (whole, digits) = by_test (nat_le (length digits) 9) refl
  where
    by_test : (b : Bool) → nat_le (length digits) 9 ≡ b
        → IfThere IsSmall (if b then option_and_then (λ whole. point_fraction whole digits) (u32_in whole) else None)
    by_test true e =
        chained (λ n. n < 2 ^ 32) IsSmall (λ whole. point_fraction whole digits) (u32_in whole)
        (λ n h. point_small n digits (few (length digits) e)) (number_small (2 ^ 32) whole)
      where
        few : (n : ℕ) → nat_le n 9 ≡ true → n ≤ 9
        few n e = grind (arith, nat_tests)
    by_test false e = tt

pub rational_small : (word : List ℕ) → IfThere IsSmall (rational_in word)
rational_small word = by_slash (cut 47 word)
  where
    by_point : (o : Option (List ℕ × List ℕ))
        → IfThere IsSmall (elim o as (λ _. Option Fraction) [
          | Some parts ↦ decimal_of parts
          | None ↦ option_map (λ whole. fraction whole 1) (u32_in word)
        ])
    by_point (Some parts) = decimal_small parts
    by_point None =
        mapped (λ n. n < 2 ^ 32) IsSmall (λ whole. fraction whole 1) (u32_in word)
        (λ n h. (h, omega arith)) (number_small (2 ^ 32) word)

    by_slash : (o : Option (List ℕ × List ℕ))
        → IfThere IsSmall (elim o as (λ _. Option Fraction) [
          | Some parts ↦ fraction_of parts
          | None ↦ decimal_in word
        ])
    by_slash (Some parts) = quotient_small parts
    by_slash None = by_point (cut 46 word)

-- both numbers have 32 bits with a sign
abbrev pub IsSmallSigned : SignedFraction → Type 0
IsSmallSigned r = IsSigned (2 ^ 31) r.num × IsSigned (2 ^ 31) r.denom

with_sign_small : (negative : Bool) (of : Fraction) → IfThere IsSmallSigned (signed_fraction negative of)
with_sign_small negative of =
    by_test (nat_lt of.num 2147483648 && nat_lt of.denom 2147483648) refl
  where
    below : (n : ℕ) → nat_lt n 2147483648 ≡ true → n < 2 ^ 31
    below n e = grind (arith, nat_tests)

    by_sign : (b : Bool) → of.num < 2 ^ 31 → IsSigned (2 ^ 31) (if b then neg_ℤ (pos of.num) else pos of.num)
    by_sign true h = negated (2 ^ 31) of.num (omega arith) (omega (arith, h))
    by_sign false h = h

    by_test : (b : Bool) → (nat_lt of.num 2147483648 && nat_lt of.denom 2147483648) ≡ b
        → IfThere IsSmallSigned (if b then Some (record {
          num = if negative then neg_ℤ (pos of.num) else pos of.num;
          denom = pos of.denom;
        }) else None)
    by_test true e =
        let p = and_parts (nat_lt of.num 2147483648) (nat_lt of.denom 2147483648) e in
        (by_sign negative (below of.num p.0), below of.denom p.1)
    by_test false e = tt

pub srational_small : (text : List ℕ) → IfThere IsSmallSigned (srational_in text)
srational_small [] = tt
srational_small (sign ∷ word) = by_test (sign == 45)
  where
    by_test : (b : Bool) → IfThere IsSmallSigned (if b then option_and_then (signed_fraction true) (rational_in word)
        else option_and_then (signed_fraction false) (rational_in (sign ∷ word)))
    by_test true =
        chained IsSmall IsSmallSigned (signed_fraction true) (rational_in word) (λ of h. with_sign_small true of)
        (rational_small word)
    by_test false =
        chained IsSmall IsSmallSigned (signed_fraction false) (rational_in (sign ∷ word))
        (λ of h. with_sign_small false of) (rational_small (sign ∷ word))

-- ---- degrees

parts_small : (degrees part denom : ℕ) → degrees < 1000 → part < denom → denom ≤ 10000000
    → All IsSmall (parts_of degrees part denom)
parts_small degrees part denom d p m =
    let rest : part * 60 % denom < denom = mod-lt (part * 60) (omega (arith, p)) in
    let seconds : part * 60 % denom * 60 < 2 ^ 32 = omega arith in
    let whole : part * 60 / denom ≤ part * 60 = div-le_self (part * 60) denom in
    let minutes : part * 60 / denom < 2 ^ 32 = omega arith in
    let lower : denom < 2 ^ 32 = omega arith in
    All-cons IsSmall (fraction degrees 1) (fraction (part * 60 / denom) 1 ∷ fraction (part * 60 % denom * 60) denom ∷ [])
    (omega arith, omega arith)
    (All-cons IsSmall (fraction (part * 60 / denom) 1) (fraction (part * 60 % denom * 60) denom ∷ [])
    (minutes, omega arith)
    (All-cons IsSmall (fraction (part * 60 % denom * 60) denom) [] (seconds, lower) (All-nil IsSmall)))

-- seven digits at most
seven : (k : ℕ) → k ≤ 7 → 10 ^ k ≤ 10000000
seven k few = let most : 10 ^ k ≤ 10 ^ 7 = pow-le-pow_right (omega arith) few in omega arith

counted_few : (digits : List ℕ) → length (take (min (length digits) 7) digits) ≤ 7
counted_few digits = omega (arith, length-take (min (length digits) 7) digits)

decimal_degrees_small : (parts : List ℕ × List ℕ) → IfThere (All IsSmall) (decimal_degrees parts)
decimal_degrees_small (whole, digits) =
    let counted = take (min (length digits) 7) digits in
    let denom = 10 ^ length counted in
    chained (λ n. n < 1000) (All IsSmall)
    (λ degrees. option_map (λ part. parts_of degrees part denom) (number_below denom counted))
    (number_below 1000 whole)
    (λ degrees d. mapped (λ n. n < denom) (All IsSmall) (λ part. parts_of degrees part denom)
    (number_below denom counted)
    (λ part p. parts_small degrees part denom d p (seven (length counted) (counted_few digits)))
    (number_small denom counted))
    (number_small 1000 whole)

pub degrees_small : (text : List ℕ) → IfThere (All IsSmall) (degrees_in text)
degrees_small text = by_point (cut 46 text)
  where
    whole_small : (degrees : ℕ) → degrees < 1000 → All IsSmall (fraction degrees 1 ∷ fraction 0 1 ∷ fraction 0 1 ∷ [])
    whole_small degrees d =
        All-cons IsSmall (fraction degrees 1) (fraction 0 1 ∷ fraction 0 1 ∷ []) (omega arith, omega arith)
        (All-cons IsSmall (fraction 0 1) (fraction 0 1 ∷ []) (omega arith, omega arith)
        (All-cons IsSmall (fraction 0 1) [] (omega arith, omega arith) (All-nil IsSmall)))

    by_point : (o : Option (List ℕ × List ℕ))
        → IfThere (All IsSmall) (elim o as (λ _. Option (List Quotient)) [
          | Some parts ↦ decimal_degrees parts
          | None ↦ option_map (λ degrees. fraction degrees 1 ∷ fraction 0 1 ∷ fraction 0 1 ∷ []) (number_below 1000 text)
        ])
    by_point (Some parts) = decimal_degrees_small parts
    by_point None =
        mapped (λ n. n < 1000) (All IsSmall) (λ degrees. fraction degrees 1 ∷ fraction 0 1 ∷ fraction 0 1 ∷ [])
        (number_below 1000 text) whole_small (number_small 1000 text)

-- ---- lists

with_word_holds : {A : Type 0} (P : A → Type 0) (spelled : List ℕ → Option A)
    → ((word : List ℕ) → IfThere P (spelled word)) → (items : List A) (word : List ℕ) → All P items
    → IfThere (All P) (with_word spelled items word)
with_word_holds P spelled h items [] k = k
with_word_holds P spelled h items (byte ∷ word) k =
    mapped P (All P) (λ item. items ++ item ∷ []) (spelled (byte ∷ word))
    (λ x p. All-push P items x k p) (h (byte ∷ word))

items_hold : {A : Type 0} (P : A → Type 0) (spelled : List ℕ → Option A)
    → ((word : List ℕ) → IfThere P (spelled word)) → (text : List ℕ) (items : List A) (word : List ℕ)
    → All P items → IfThere (All P) (items_behind spelled text items word)
items_hold P spelled h [] items word k = with_word_holds P spelled h items word k
items_hold {A} P spelled h (byte ∷ bytes) items word k =
    by_test (is_separator byte) (λ more p. items_hold P spelled h bytes more [] p)
    (items_hold P spelled h bytes items (word ++ byte ∷ []) k)
  where
    by_test : (b : Bool)
        → ((more : List A) → All P more → IfThere (All P) (items_behind spelled bytes more []))
        → IfThere (All P) (items_behind spelled bytes items (word ++ byte ∷ []))
        → IfThere (All P) (if b then option_and_then (λ items. items_behind spelled bytes items []) (with_word spelled items word)
        else items_behind spelled bytes items (word ++ byte ∷ []))
    by_test true next same =
        chained (All P) (All P) (λ items. items_behind spelled bytes items []) (with_word spelled items word)
        next (with_word_holds P spelled h items word k)
    by_test false next same = same

pub list_holds : {A : Type 0} (P : A → Type 0) (spelled : List ℕ → Option A)
    → ((word : List ℕ) → IfThere P (spelled word)) → (text : List ℕ)
    → IfThere (All P) (items_in spelled text)
list_holds {A} P spelled h text =
    chained (All P) (All P) not_empty (items_behind spelled text [] []) kept
    (items_hold P spelled h text [] [] (All-nil P))
  where
    kept : (xs : List A) → All P xs → IfThere (All P) (not_empty xs)
    kept [] k = tt
    kept (x ∷ xs) k = k
