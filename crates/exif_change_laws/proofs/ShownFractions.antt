-- Fractions that are read of their texts.
use Rattle.std.proofs.Common.{◌≡◌, ◌<◌, ◌≤◌, ◌*◌, ◌/◌, ◌%◌, ◌^◌, ◌==◌, ◌&&◌, ◌∙◌, ℕ, ℤ, zero, suc, pos, neg_ℤ, Bool, true, false, not, List, [], ◌∷◌, ◌++◌, Option, Some, None, if◌then◌else◌, decimal, option_and_then, option_map, refl, sym, ap, subst, arith}
use Rattle.std.specs.Prelude.{nat_lt}
use Rattle.std.specs.Fmt.{sign_text}
use Rattle.std.proofs.lemmas.Bool.Decides.{nat_tests}
use Rattle.std.proofs.Math.Nat.{div-le_of_le-mul, le-mul_of_pos_right, mod-lt, mul-div_cancel, mul_comm, mul_assoc, mul_right_comm, pow-le-pow_right, pow-suc}
use Rattle.exif_text.specs.Decimal.{decimal_text, fraction_text, in_digits, without_last_zeros}
use Rattle.exif_text.specs.declared.rational.Rational.{Rational}
use Rattle.exif_text.specs.declared.rational.SRational.{SRational}
use Rattle.exif_datetime.specs.Numbers.{cut}
use Rattle.exif_change_laws.specs.Shown.{shortened, shown_fraction}
use Rattle.exif_assign.specs.Texts.{decimal_in, fraction, fraction_of, rational_in, signed_fraction, srational_in, u32_in}
use Rattle.exif_change_laws.proofs.ShownDecimals.{digits_in, digits_without, parts_read, parts_text, tail_of, ten_pos}
use Rattle.exif_change_laws.proofs.ShownDigits.{IsNotEmpty, Lacks, cut_nowhere, cut_there, decimal_of_number, decimal_read, digits_lack, lacks_append, not_empty_append}
use Rattle.exif_change_laws.proofs.ShownItems.{Spells}

-- ---- the bytes of decimals

-- the first byte of a text is not this one
abbrev pub BeginsOther : ℕ → List ℕ → Type 0
BeginsOther mark [] = ⊥
BeginsOther mark (x ∷ xs) = (x == mark) ≡ false

pub begins_append : (mark : ℕ) (xs ys : List ℕ) → BeginsOther mark xs → BeginsOther mark (xs ++ ys)
begins_append mark [] ys h = absurd h
begins_append mark (x ∷ xs) ys h = h

pub begins_lacking : (mark : ℕ) (xs : List ℕ) → IsNotEmpty xs → Lacks mark xs → BeginsOther mark xs
begins_lacking mark [] some h = absurd some
begins_lacking mark (x ∷ xs) some h = h.0

tail_lacks : (mark k n : ℕ) → mark < 48 → (46 == mark) ≡ false → n < 10 ^ k → Lacks mark (tail_of k n)
tail_lacks mark k n low other small =
    by_test (n == 0)
  where
    by_test : (b : Bool) → Lacks mark (if b then [] else 46 ∷ without_last_zeros (in_digits k n))
    by_test true = tt
    by_test false = (
      other,
      digits_lack mark low (without_last_zeros (in_digits k n))
          (digits_without (in_digits k n) (digits_in k n small)),
    )

-- a decimal lacks this byte
parts_lack : (mark k n : ℕ) → mark < 48 → (46 == mark) ≡ false → n / 10 ^ k < 2 ^ 64
    → Lacks mark (parts_text k n)
parts_lack mark k n low other small =
    lacks_append mark (decimal (n / 10 ^ k)) (tail_of k (n % 10 ^ k))
    (digits_lack mark low (decimal (n / 10 ^ k)) (decimal_of_number (n / 10 ^ k) small).digits)
    (tail_lacks mark k (n % 10 ^ k) low other (mod-lt n (ten_pos k)))

-- ---- the fraction that is shown

-- it is as large
pub as_large : (k n : ℕ) → (shortened k n).num * 10 ^ k ≡ n * (shortened k n).denom
unfolding shortened
as_large zero n = refl
as_large (suc k) n = by_last (n % 10 == 0) refl (as_large k (n / 10))
  where
    by_last : (b : Bool) → (n % 10 == 0) ≡ b
        → (shortened k (n / 10)).num * 10 ^ k ≡ n / 10 * (shortened k (n / 10)).denom
        → (if b then shortened k (n / 10) else fraction n (10 ^ suc k)).num * 10 ^ suc k
        ≡ n * (if b then shortened k (n / 10) else fraction n (10 ^ suc k)).denom
    by_last true e r =
        let s = shortened k (n / 10) in
        let last : n / 10 * 10 ≡ n = tenth n e in
        ap (λ m. s.num * m) (pow-suc 10 k)
        ∙ (sym (mul_assoc s.num (10 ^ k) 10)
        ∙ (ap (λ m. m * 10) r ∙ (mul_right_comm (n / 10) s.denom 10 ∙ ap (λ m. m * s.denom) last)))
      where
        tenth : (n : ℕ) → (n % 10 == 0) ≡ true → n / 10 * 10 ≡ n
        tenth n e = grind (arith, nat_tests)
    by_last false e r = refl

-- its lower number is a power of ten
pub denom_pos : (k n : ℕ) → 0 < (shortened k n).denom
unfolding shortened
denom_pos zero n = omega arith
denom_pos (suc k) n = by_last (n % 10 == 0) (denom_pos k (n / 10))
  where
    by_last : (b : Bool) → 0 < (shortened k (n / 10)).denom
        → 0 < (if b then shortened k (n / 10) else fraction n (10 ^ suc k)).denom
    by_last true r = r
    by_last false r = ten_pos (suc k)

pub denom_small : (k n : ℕ) → (shortened k n).denom ≤ 10 ^ k
unfolding shortened
denom_small zero n = omega arith
denom_small (suc k) n = by_last (n % 10 == 0) (denom_small k (n / 10))
  where
    by_last : (b : Bool) → (shortened k (n / 10)).denom ≤ 10 ^ k
        → (if b then shortened k (n / 10) else fraction n (10 ^ suc k)).denom ≤ 10 ^ suc k
    by_last true r = let p : 10 ^ suc k ≡ 10 ^ k * 10 = pow-suc 10 k in omega arith
    by_last false r = omega arith

-- its upper number is zero only at zero
pub num_zero : (k : ℕ) → (shortened k 0).num ≡ 0
unfolding shortened
num_zero zero = refl
num_zero (suc k) = num_zero k

-- the whole part is at most the upper number
whole_small : (k n : ℕ) → n / 10 ^ k ≤ (shortened k n).num
whole_small k n =
    let more : n ≤ n * (shortened k n).denom = le-mul_of_pos_right n (denom_pos k n) in
    let same : n * (shortened k n).denom ≡ 10 ^ k * (shortened k n).num =
    sym (as_large k n) ∙ mul_comm (shortened k n).num (10 ^ k) in
    div-le_of_le-mul (10 ^ k) (subst (λ m. n ≤ m) same more)

-- this many billionths
pub billionths_again : (k n : ℕ) → (shortened k n).num * 10 ^ k / (shortened k n).denom ≡ n
billionths_again k n =
    ap (λ m. m / (shortened k n).denom) (as_large k n) ∙ mul-div_cancel n (denom_pos k n)

-- ---- fractions without sign

slashless : (word : List ℕ) → cut 47 word ≡ None → rational_in word ≡ decimal_in word
slashless word e =
    ap (λ x. elim x as (λ _. Option Rational) [
      | Some parts ↦ fraction_of parts
      | None ↦ decimal_in word
    ]) e

pub slashed : (word upper lower : List ℕ) → cut 47 word ≡ Some (upper, lower)
    → rational_in word ≡ fraction_of (upper, lower)
slashed word upper lower e =
    ap (λ x. elim x as (λ _. Option Rational) [
      | Some parts ↦ fraction_of parts
      | None ↦ decimal_in word
    ]) e

-- two numbers around a slash
pub quotient_spelled : (num denom : ℕ) → num < 2 ^ 32 → denom < 2 ^ 32
    → Spells rational_in (decimal num ++ 47 ∷ decimal denom) (fraction num denom)
quotient_spelled num denom h k =
    let a = decimal_of_number num (omega arith) in
    let b = decimal_of_number denom (omega arith) in
    let lacks : (mark : ℕ) → mark < 48 → (47 == mark) ≡ false → Lacks mark (decimal num ++ 47 ∷ decimal denom) =
    λ mark low other. lacks_append mark (decimal num) (47 ∷ decimal denom)
    (digits_lack mark low (decimal num) a.digits) (other, digits_lack mark low (decimal denom) b.digits) in
    record {
      reads = slashed (decimal num ++ 47 ∷ decimal denom) (decimal num) (decimal denom)
          (cut_there 47 [] (decimal num) (decimal denom) (digits_lack 47 (omega arith) (decimal num) a.digits))
          ∙ (ap (option_and_then (λ n. option_map (fraction n) (u32_in (decimal denom))))
          (decimal_read 4294967296 num (omega arith) (omega arith))
          ∙ ap (option_map (fraction num)) (decimal_read 4294967296 denom (omega arith) (omega arith)));
      commas = lacks 44 (omega arith) refl;
      spaces = lacks 32 (omega arith) refl;
      some = not_empty_append (decimal num) (47 ∷ decimal denom) a.some;
    }

-- a decimal
pub parts_spelled : (k n : ℕ) → k ≤ 9 → (shortened k n).num < 2 ^ 32
    → Spells rational_in (parts_text k n) (shortened k n)
parts_spelled k n few h =
    let least : n / 10 ^ k ≤ (shortened k n).num = whole_small k n in
    let whole : n / 10 ^ k < 2 ^ 64 = omega arith in
    record {
      reads = slashless (parts_text k n)
          (cut_nowhere 47 [] (parts_text k n) (parts_lack 47 k n (omega arith) refl whole))
          ∙ parts_read k n few h;
      commas = parts_lack 44 k n (omega arith) refl whole;
      spaces = parts_lack 32 k n (omega arith) refl whole;
      some = not_empty_append (decimal (n / 10 ^ k)) (tail_of k (n % 10 ^ k))
          (decimal_of_number (n / 10 ^ k) whole).some;
    }

-- what is shown of two numbers, with a sign
pub decimal_parts : (negative : Bool) (num denom : ℕ) → (denom == 0) ≡ false
    → decimal_text negative num denom
    ≡ sign_text (negative && not (num * 10 ^ 9 / denom == 0)) ++ parts_text 9 (num * 10 ^ 9 / denom)
unfolding decimal_text fraction_text
decimal_parts negative num denom e =
    ap (λ t. if t then sign_text negative ++ (decimal num ++ 47 ∷ 48 ∷ [])
    else sign_text (negative && not (num * 10 ^ 9 / denom == 0)) ++ parts_text 9 (num * 10 ^ 9 / denom)) e

-- the decimal of a fraction without sign
pub unsigned_spelled : (num denom : ℕ) → (denom == 0) ≡ false → (shown_fraction num denom).num < 2 ^ 32
    → Spells rational_in (decimal_text false num denom) (shown_fraction num denom)
unsigned_spelled num denom e h =
    subst (λ text. Spells rational_in text (shown_fraction num denom)) (sym (decimal_parts false num denom e))
    (parts_spelled 9 (num * 10 ^ 9 / denom) (omega arith) h)

-- ---- fractions with sign

-- a fraction with its sign
abbrev pub signed_as : Bool → Rational → SRational
signed_as negative of =
    record { num = if negative then neg_ℤ (pos of.num) else pos of.num; denom = pos of.denom }

signed_fits : (negative : Bool) (of : Rational) → of.num < 2 ^ 31 → of.denom < 2 ^ 31
    → signed_fraction negative of ≡ Some (signed_as negative of)
signed_fits negative of h k =
    ap (λ t. if t && nat_lt of.denom 2147483648 then Some (signed_as negative of) else None) (below of.num h)
    ∙ ap (λ t. if t then Some (signed_as negative of) else None) (below of.denom k)
  where
    below : (n : ℕ) → n < 2 ^ 31 → nat_lt n 2147483648 ≡ true
    below n h = grind (arith, nat_tests)

without_minus : (text : List ℕ) (of : Rational) → BeginsOther 45 text → rational_in text ≡ Some of
    → srational_in text ≡ signed_fraction false of
without_minus [] of h e = absurd h
without_minus (x ∷ xs) of h e = rw h (ap (option_and_then (signed_fraction false)) e)

-- a text that lacks a minus is one without sign, and behind a minus it is one with it
pub plainly_signed : (text : List ℕ) (of : Rational) → Spells rational_in text of → BeginsOther 45 text
    → of.num < 2 ^ 31 → of.denom < 2 ^ 31 → Spells srational_in text (signed_as false of)
plainly_signed text of s b h k = record {
  reads = without_minus text of b s.reads ∙ signed_fits false of h k;
  commas = s.commas;
  spaces = s.spaces;
  some = s.some;
}

pub minus_signed : (text : List ℕ) (of : Rational) → Spells rational_in text of
    → of.num < 2 ^ 31 → of.denom < 2 ^ 31 → Spells srational_in (45 ∷ text) (signed_as true of)
minus_signed text of s h k = record {
  reads = ap (option_and_then (signed_fraction true)) s.reads ∙ signed_fits true of h k;
  commas = (refl, s.commas);
  spaces = (refl, s.spaces);
  some = tt;
}

-- a sign that is not shown, of zero
unshown : (negative : Bool) (of : Rational) → of.num ≡ 0 → signed_as false of ≡ signed_as negative of
unshown false of e = refl
unshown true of e =
    ap (λ (z : ℤ). record { num = z; denom = pos of.denom }) (none of.num e)
  where
    none : (n : ℕ) → n ≡ 0 → pos n ≡ neg_ℤ (pos n)
    none n e = subst (λ (m : ℕ). pos m ≡ neg_ℤ (pos m)) (sym e) refl

-- the decimal of a fraction with sign
pub signed_spelled : (negative : Bool) (num denom : ℕ) → (denom == 0) ≡ false
    → (shown_fraction num denom).num < 2 ^ 31
    → Spells srational_in (decimal_text negative num denom) (signed_as negative (shown_fraction num denom))
signed_spelled negative num denom e h =
    subst (λ text. Spells srational_in text (signed_as negative (shown_fraction num denom)))
    (sym (decimal_parts negative num denom e))
    (signed_parts 9 (num * 10 ^ 9 / denom) (omega arith) (billion 9 (omega arith)) h)
  where
    billion : (k : ℕ) → k ≤ 9 → 10 ^ k < 2 ^ 31
    billion k few = let most : 10 ^ k ≤ 10 ^ 9 = pow-le-pow_right (omega arith) few in omega arith

    signed_parts : (k n : ℕ) → k ≤ 9 → 10 ^ k < 2 ^ 31 → (shortened k n).num < 2 ^ 31
        → Spells srational_in (sign_text (negative && not (n == 0)) ++ parts_text k n)
        (signed_as negative (shortened k n))
    signed_parts k n few p h = by_sign negative (n == 0) refl
      where
        lower : (shortened k n).denom < 2 ^ 31
        lower = let most : (shortened k n).denom ≤ 10 ^ k = denom_small k n in omega arith

        spelled : Spells rational_in (parts_text k n) (shortened k n)
        spelled = parts_spelled k n few (omega arith)

        begins : BeginsOther 45 (parts_text k n)
        begins =
            let least : n / 10 ^ k ≤ (shortened k n).num = whole_small k n in
            begins_lacking 45 (parts_text k n) spelled.some
            (parts_lack 45 k n (omega arith) refl (omega arith))

        by_sign : (negative is_zero : Bool) → (n == 0) ≡ is_zero
            → Spells srational_in (sign_text (negative && not is_zero) ++ parts_text k n)
            (signed_as negative (shortened k n))
        by_sign false is_zero e = plainly_signed (parts_text k n) (shortened k n) spelled begins h lower
        by_sign true false e = minus_signed (parts_text k n) (shortened k n) spelled h lower
        by_sign true true e =
            let none : n ≡ 0 = grind (arith, nat_tests) in
            subst (Spells srational_in (parts_text k n))
            (unshown true (shortened k n) (ap (λ m. (shortened k m).num) none ∙ num_zero k))
            (plainly_signed (parts_text k n) (shortened k n) spelled begins h lower)
