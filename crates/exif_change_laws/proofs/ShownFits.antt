-- The fractions that decimals are fit a tag as those do of which they are shown.
use Rattle.std.proofs.Common.{◌≡◌, ◌<◌, ◌*◌, ◌/◌, ◌^◌, ◌==◌, ◌&&◌, ◌∙◌, ℕ, pos, suc, unsigned_abs, Bool, true, false, not, List, [], ◌∷◌, map, length, find, Option, Some, None, refl, sym, ap, arith}
use Rattle.std.specs.Prelude.{nat_le, nat_lt}
use Rattle.std.specs.Ordering.{int_eq}
use Rattle.std.proofs.lemmas.Bool.{and_parts, false≢true}
use Rattle.std.proofs.lemmas.Bool.Decides.{Decides-int_eq, nat_tests}
use Rattle.std.proofs.Math.Nat.{div-div-eq-div-mul, mul-div-mul_right, mul_comm}
use Rattle.exif_table.specs.declared.kind.TextKind.TheVariants as K
use Rattle.exif_text.specs.declared.rational.Rational.{Rational as Fraction}
use Rattle.exif_text.specs.declared.rational.SRational.{SRational as SignedFraction}
use Rattle.exif_types.specs.FieldEq.{tag_Decides}
use Rattle.exif_types.specs.Lookup.{tag_eq}
use Rattle.exif_types.specs.TagRows.{kind_of, row_of_tag}
use Rattle.exif_types.specs.declared.tag.Tag.{Tag}
use Rattle.exif_types.specs.declared.value.Value.{Value}
use Rattle.exif_types.specs.declared.value.Value.TheVariants.{Byte, Ascii, Short, Long, Rational, SByte, Undefined, SShort, SLong, SRational, Float, Double, Unknown}
use Rattle.exif_assign.specs.Assigning.{or_else}
use Rattle.exif_assign.specs.Fitting.{fits, is_below, is_clock, is_counted, is_date, is_day_text, is_degrees, is_digits, is_fraction, is_less, is_letter, is_offset, is_unit, number_of}
use Rattle.exif_assign.specs.Rules.{form_of, kept_rules, rules}
use Rattle.exif_change_laws.specs.Shown.{are_decimals, as_decimals, as_shown, as_shown_signed, shortened}
use Rattle.exif_change_laws.proofs.RuleLists.{found, gps, shows_degrees, unruled, ◌⊕◌}
use Rattle.exif_change_laws.proofs.ShownAgain.{denom_not_zero}
use Rattle.exif_change_laws.proofs.ShownDecimals.{ten_pos}
use Rattle.exif_change_laws.proofs.ShownFractions.{as_large, denom_pos}
use Rattle.exif_change_laws.proofs.ShownKinds.{not_zero}

-- ---- by the form of a tag

kept : {X : Type 0} {a b : Bool} → (a ≡ true → b ≡ true) → X → a ≡ true → b ≡ true
kept h x = h

any : {X : Type 0} → X → true ≡ true → true ≡ true
any x e = refl

none : {X : Type 0} → X → false ≡ true → false ≡ true
none x e = e

-- what holds of a number, if there is one
abbrev of_number : (ℕ → Bool) → Option ℕ → Bool
of_number good o = elim o [ Some n ↦ good n | None ↦ false ]

-- a value fits a tag that another one fits, if it is like that in each way in which values fit
module _ (tag : Tag) (v new : Value)
    (numbered : (good : ℕ → Bool) → of_number good (number_of v) ≡ true → of_number good (number_of new) ≡ true)
    (counts : (low high : ℕ) → is_counted low high v ≡ true → is_counted low high new ≡ true)
    (dates : is_date v ≡ true → is_date new ≡ true)
    (days : is_day_text v ≡ true → is_day_text new ≡ true)
    (offsets : is_offset v ≡ true → is_offset new ≡ true)
    (digits : is_digits v ≡ true → is_digits new ≡ true)
    (letters : (one other : ℕ) → is_letter one other v ≡ true → is_letter one other new ≡ true)
    (units : is_unit v ≡ true → is_unit new ≡ true)
    (fractions : is_fraction v ≡ true → is_fraction new ≡ true)
    (below : (than : ℕ) → is_below than v ≡ true → is_below than new ≡ true)
    (clocks : is_clock v ≡ true → is_clock new ≡ true)
    (degrees : (number most : ℕ) → shows_degrees (kind_of (gps number)) ≡ true → tag_eq (gps number) tag ≡ true
    → is_degrees most v ≡ true → is_degrees most new ≡ true) where
  fits_too : fits (form_of tag) v ≡ true → fits (form_of tag) new ≡ true
  unfolding row_of_tag
  fits_too =
      found rules (λ rule. tag_eq rule.0 tag)
      (λ o. fits (elim (or_else o (find (λ rule. tag_eq rule.0 tag) kept_rules)) [
        | Some rule ↦ rule.2
        | None ↦ form_of unruled
      ]) v ≡ true → fits (elim (or_else o (find (λ rule. tag_eq rule.0 tag) kept_rules)) [
        | Some rule ↦ rule.2
        | None ↦ form_of unruled
      ]) new ≡ true)
      (found kept_rules (λ rule. tag_eq rule.0 tag)
      (λ o. fits (elim o [ Some rule ↦ rule.2 | None ↦ form_of unruled ]) v ≡ true
      → fits (elim o [ Some rule ↦ rule.2 | None ↦ form_of unruled ]) new ≡ true)
      (λ e. refl)
      (kept (counts 1 1) ⊕ kept (counts 1 1) ⊕ any ⊕ kept (counts 1 1) ⊕ kept (counts 1 1)
      ⊕ kept (counts 1 1) ⊕ kept (counts 1 1) ⊕ kept (numbered _) ⊕ any ⊕ kept (counts 2 2)
      ⊕ kept (numbered _) ⊕ any ⊕ any ⊕ kept (counts 4 4) ⊕ kept (counts 4 4) ⊕ none
      ⊕ kept (counts 4 4) ⊕ kept (counts 1 1) ⊕ kept (counts 1 1) ⊕ any ⊕ any ⊕ any ⊕ any
      ⊕ kept (counts 4 4) ⊕ kept (counts 4 4) ⊕ any ⊕ kept (counts 1 1) ⊕ kept (counts 1 1)
      ⊕ tt))
      (any ⊕ any ⊕ any ⊕ any ⊕ any ⊕ any ⊕ kept dates ⊕ kept (numbered _) ⊕ kept fractions
      ⊕ kept fractions ⊕ kept (numbered _) ⊕ kept (counts 2 2) ⊕ kept (counts 6 6)
      ⊕ kept (counts 3 3) ⊕ kept fractions ⊕ kept fractions ⊕ kept (numbered _) ⊕ any ⊕ any
      ⊕ kept (numbered _) ⊕ kept (counts 1 1) ⊕ kept (counts 1 1) ⊕ kept (counts 1 1)
      ⊕ kept (counts 1 1) ⊕ kept (counts 1 1) ⊕ kept dates ⊕ kept dates ⊕ kept offsets
      ⊕ kept offsets ⊕ kept offsets ⊕ kept fractions ⊕ kept fractions ⊕ kept fractions
      ⊕ kept fractions ⊕ kept fractions ⊕ kept fractions ⊕ kept (counts 1 1)
      ⊕ kept (numbered _) ⊕ kept (numbered _) ⊕ kept (numbered _) ⊕ kept fractions
      ⊕ kept (counts 2 4) ⊕ any ⊕ kept digits ⊕ kept digits ⊕ kept digits ⊕ kept fractions
      ⊕ kept fractions ⊕ kept fractions ⊕ kept fractions ⊕ kept fractions ⊕ kept fractions
      ⊕ kept (numbered _) ⊕ kept (counts 13 13) ⊕ kept fractions ⊕ kept fractions
      ⊕ kept fractions ⊕ kept (numbered _) ⊕ kept (counts 2 2) ⊕ kept fractions
      ⊕ kept (numbered _) ⊕ kept (numbered _) ⊕ kept (numbered _) ⊕ kept (numbered _)
      ⊕ kept (numbered _) ⊕ kept (numbered _) ⊕ kept fractions ⊕ kept (counts 1 1)
      ⊕ kept (numbered _) ⊕ kept (numbered _) ⊕ kept (numbered _) ⊕ kept (numbered _)
      ⊕ kept (numbered _) ⊕ kept (numbered _) ⊕ kept (counts 33 33) ⊕ any ⊕ any
      ⊕ kept (counts 4 4) ⊕ any ⊕ any ⊕ any ⊕ kept (numbered _) ⊕ kept (counts 2 2)
      ⊕ kept fractions ⊕ kept (counts 4 4) ⊕ kept (letters 78 83) ⊕ degrees 0x0002 90 refl
      ⊕ kept (letters 69 87) ⊕ degrees 0x0004 180 refl ⊕ kept (numbered _) ⊕ kept fractions
      ⊕ kept clocks ⊕ any ⊕ kept (letters 65 86) ⊕ kept (letters 50 51) ⊕ kept fractions
      ⊕ kept units ⊕ kept fractions ⊕ kept (letters 84 77) ⊕ kept (below 360)
      ⊕ kept (letters 84 77) ⊕ kept (below 360) ⊕ any ⊕ kept (letters 78 83)
      ⊕ degrees 0x0014 90 refl ⊕ kept (letters 69 87) ⊕ degrees 0x0016 180 refl
      ⊕ kept (letters 84 77) ⊕ kept (below 360) ⊕ kept units ⊕ kept fractions ⊕ any ⊕ any
      ⊕ kept days ⊕ kept (numbered _) ⊕ kept fractions ⊕ tt)

-- ---- fractions

-- the whole part of a decimal
same_whole : (k num denom : ℕ) → 0 < denom
    → (shortened k (num * 10 ^ k / denom)).num / (shortened k (num * 10 ^ k / denom)).denom ≡ num / denom
same_whole k num denom h =
    let n = num * 10 ^ k / denom in
    let s = shortened k n in
    sym (mul-div-mul_right s.num s.denom (ten_pos k))
    ∙ (ap (λ m. m / (s.denom * 10 ^ k)) (as_large k n)
    ∙ (ap (λ m. n * s.denom / m) (mul_comm s.denom (10 ^ k))
    ∙ (mul-div-mul_right n (10 ^ k) (denom_pos k n)
    ∙ (div-div-eq-div-mul (num * 10 ^ k) denom (10 ^ k) ∙ mul-div-mul_right num denom (ten_pos k)))))

both_true : (a b : Bool) → a ≡ true → b ≡ true → (a && b) ≡ true
both_true true b e f = f
both_true false b e f = absurd (false≢true e)

-- another lower number than zero
some_denom : (k n : ℕ) → not ((shortened k n).denom == 0) ≡ true
some_denom k n = ap not (denom_not_zero k n)

-- a decimal is less than a number where the fraction is
less_too : (r : Fraction) (than : ℕ) → is_less r than ≡ true → is_less (as_shown r) than ≡ true
less_too r than e =
    let n = r.num * 10 ^ 9 / r.denom in
    let p = and_parts (not (r.denom == 0)) (nat_lt (r.num / r.denom) than) e in
    let some : 0 < r.denom = above r.denom (not_zero (r.denom == 0) p.0) in
    both_true (not ((as_shown r).denom == 0)) (nat_lt ((as_shown r).num / (as_shown r).denom) than) (some_denom 9 n)
    (ap (λ m. nat_lt m than) (same_whole 9 r.num r.denom some) ∙ p.1)
  where
    above : (n : ℕ) → (n == 0) ≡ false → 0 < n
    above n e = grind (arith, nat_tests)

fraction_too : (rs : List Fraction) → is_fraction (Rational rs) ≡ true
    → is_fraction (Rational (map as_shown rs)) ≡ true
fraction_too [] e = e
fraction_too (r ∷ []) e = some_denom 9 (r.num * 10 ^ 9 / r.denom)
fraction_too (r ∷ s ∷ rs) e = e

below_too : (rs : List Fraction) (than : ℕ) → is_below than (Rational rs) ≡ true
    → is_below than (Rational (map as_shown rs)) ≡ true
below_too [] than e = e
below_too (r ∷ []) than e = less_too r than e
below_too (r ∷ s ∷ rs) than e = e

clock_too : (rs : List Fraction) → is_clock (Rational rs) ≡ true → is_clock (Rational (map as_shown rs)) ≡ true
clock_too [] e = e
clock_too (h ∷ []) e = e
clock_too (h ∷ m ∷ []) e = e
clock_too (h ∷ m ∷ s ∷ []) e =
    let p = and_parts (is_less h 24) (is_less m 60 && is_less s 61) e in
    let q = and_parts (is_less m 60) (is_less s 61) p.1 in
    both_true (is_less (as_shown h) 24) (is_less (as_shown m) 60 && is_less (as_shown s) 61) (less_too h 24 p.0)
    (both_true (is_less (as_shown m) 60) (is_less (as_shown s) 61) (less_too m 60 q.0) (less_too s 61 q.1))
clock_too (h ∷ m ∷ s ∷ x ∷ rs) e = e

length_mapped : {A B : Type 0} (f : A → B) (xs : List A) → length (map f xs) ≡ length xs
length_mapped f [] = refl
length_mapped f (x ∷ xs) = ap suc (length_mapped f xs)

-- a tag that is not shown as degrees has none
no_degrees_here : (tag : Tag) (new v : Value) → shows_degrees (kind_of tag) ≡ false → (number most : ℕ)
    → shows_degrees (kind_of (gps number)) ≡ true → tag_eq (gps number) tag ≡ true
    → is_degrees most v ≡ true → is_degrees most new ≡ true
no_degrees_here tag new v k number most shown t e =
    absurd (false≢true (sym k
    ∙ (ap (λ (u : Tag). shows_degrees (kind_of u)) (sym ((tag_Decides (gps number) tag).0 t)) ∙ shown)))

-- signed fractions
signed_fraction_too : (rs : List SignedFraction) → is_fraction (SRational rs) ≡ true
    → is_fraction (SRational (map as_shown_signed rs)) ≡ true
signed_fraction_too [] e = e
signed_fraction_too (r ∷ []) e =
    let n = unsigned_abs r.num * 10 ^ 9 / unsigned_abs r.denom in
    ap not (not_equal (shortened 9 n).denom (denom_not_zero 9 n))
  where
    not_equal : (d : ℕ) → (d == 0) ≡ false → int_eq (pos d) (pos 0) ≡ false
    not_equal d e = by_test (int_eq (pos d) (pos 0)) refl
      where
        by_test : (b : Bool) → int_eq (pos d) (pos 0) ≡ b → int_eq (pos d) (pos 0) ≡ false
        by_test false t = t
        by_test true t =
            let same : d ≡ 0 = ap unsigned_abs ((Decides-int_eq (pos d) (pos 0)).0 t) in
            absurd (false≢true (sym e ∙ ap (λ m. m == 0) same))
signed_fraction_too (r ∷ s ∷ rs) e = e

-- ---- values

pub decimals_fit : (tag : Tag) (v : Value) → kind_of tag ≡ K.Decimal → are_decimals v ≡ true
    → fits (form_of tag) v ≡ true → fits (form_of tag) (as_decimals v) ≡ true
decimals_fit tag (Rational rs) k h =
    fits_too tag (Rational rs) (Rational (map as_shown rs)) (λ good e. absurd (false≢true e))
    (λ low high e. ap (λ n. nat_le low n && nat_le n high) (length_mapped as_shown rs) ∙ e)
    (λ e. absurd (false≢true e)) (λ e. absurd (false≢true e)) (λ e. absurd (false≢true e))
    (λ e. absurd (false≢true e)) (λ one other e. absurd (false≢true e)) (λ e. absurd (false≢true e))
    (fraction_too rs) (λ than e. below_too rs than e) (clock_too rs)
    (no_degrees_here tag (Rational (map as_shown rs)) (Rational rs) (ap shows_degrees k))
decimals_fit tag (SRational rs) k h =
    fits_too tag (SRational rs) (SRational (map as_shown_signed rs)) (λ good e. absurd (false≢true e))
    (λ low high e. ap (λ n. nat_le low n && nat_le n high) (length_mapped as_shown_signed rs) ∙ e)
    (λ e. absurd (false≢true e)) (λ e. absurd (false≢true e)) (λ e. absurd (false≢true e))
    (λ e. absurd (false≢true e)) (λ one other e. absurd (false≢true e)) (λ e. absurd (false≢true e))
    (signed_fraction_too rs) (λ than e. absurd (false≢true e)) (λ e. absurd (false≢true e))
    (no_degrees_here tag (SRational (map as_shown_signed rs)) (SRational rs) (ap shows_degrees k))
decimals_fit tag (Byte ns) k h = λ e. e
decimals_fit tag (Short ns) k h = λ e. e
decimals_fit tag (Long ns) k h = λ e. e
decimals_fit tag (SByte ns) k h = λ e. e
decimals_fit tag (SShort ns) k h = λ e. e
decimals_fit tag (SLong ns) k h = λ e. e
decimals_fit tag (Ascii texts) k h = λ e. e
decimals_fit tag (Undefined bytes offset) k h = λ e. e
decimals_fit tag (Float bits) k h = λ e. e
decimals_fit tag (Double bits) k h = λ e. e
decimals_fit tag (Unknown type count offset) k h = λ e. e
