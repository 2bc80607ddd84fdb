-- The numbers of digits that are read one after another.
use Rattle.std.proofs.Common.{◌≡◌, ℕ, zero, suc, ◌+◌, ◌-◌, ◌*◌, ◌^◌, ◌<◌, ◌≤◌, Bool, true, false, ◌&&◌, nat_le, List, [], ◌∷◌, length, take, drop, get_or, Option, Some, None, refl, ap, ◌∙◌, arith, ⊎_elim}
use Rattle.std.specs.Prelude.{if◌then◌else◌, Result, Ok, Err, slice_index}
use Rattle.std.specs.List.{list_all}
use Rattle.std.specs.Char.{is_ascii_digit, digit_value}
use Rattle.std.specs.Str.Parse.{digits_value}
use Rattle.std.proofs.lemmas.Bool.{cases_Bool}
use Rattle.std.proofs.lemmas.Bool.Decides.{nat_tests}
use Rattle.std.proofs.lemmas.List.Folds.{list_all_more}
use Rattle.std.proofs.lemmas.Str.{digit_value_digit}
use Rattle.std.proofs.lemmas.Int.Digits.{digits_value_more}
use Rattle.exif_text.specs.declared.date_fault.DateFault.{DateFault}
use Rattle.exif_text.specs.declared.date_fault.DateFault.TheVariants.{NotANumber}
use Rattle.exif_text.specs.Digits.{are_two_at, digit_in, number_in, two_at}
use Rattle.exif_text.proofs.SubsecLemmas.{next_below}

digit_range : (c : ℕ) → is_ascii_digit c ≡ true → (48 ≤ c) × (c ≤ 57)
digit_range c digit = (grind (arith, nat_tests), grind (arith, nat_tests))

digit_worth : (c : ℕ) → is_ascii_digit c ≡ true → digit_value c ≡ c - 48
digit_worth c digit = let worth = digit_value_digit c (digit_range c digit) in omega (arith, worth)

-- a choice that gave a number
chosen : (b : Bool) (m n : ℕ) → ◌≡◌ {A = Result ℕ DateFault} (if b then Ok m else Err NotANumber) (Ok n) → (b ≡ true) × (n ≡ m)
chosen true m n e = (refl, cc)
chosen false m n e = (cc, cc)

-- one digit more
pub digit_more : (bytes : List ℕ) (i number n : ℕ) → i < length bytes → digit_in (get_or bytes i 0) ≡ Ok n
    → list_all is_ascii_digit (take i bytes) ≡ true → number ≡ digits_value 10 (take i bytes) → number < 10 ^ i
    → (list_all is_ascii_digit (take (i + 1) bytes) ≡ true) × (number * 10 + n ≡ digits_value 10 (take (i + 1) bytes)) × (number * 10 + n < 10 ^ (i + 1))
digit_more bytes i number n within read all value small =
    let c = get_or bytes i 0 in
    let found = chosen (is_ascii_digit c) (c - 48) n read in
    let range = digit_range c found.0 in
    let worth = digit_worth c found.0 in (
      list_all_more is_ascii_digit bytes i 0 within ∙ rw (all, found.0) refl,
      omega (arith, digits_value_more 10 bytes i within, worth, found.1, value),
      next_below number i n small (omega (arith, found.1, range)),
    )

-- the two bytes at a position
two_bytes : (bytes : List ℕ) (from : ℕ) → from + 1 < length bytes → take 2 (drop from bytes) ≡ slice_index bytes from ∷ slice_index bytes (from + 1) ∷ []
two_bytes [] from h = absurd (omega arith)
two_bytes (x ∷ []) zero h = absurd (omega arith)
two_bytes (x ∷ y ∷ ys) zero h = refl
two_bytes (x ∷ xs) (suc n) h = let next : suc n + 1 ≡ suc (n + 1) = omega arith in rw next (two_bytes xs n (omega arith))

-- the number of two digits
number_of_two : (a b : ℕ) → number_in (a ∷ b ∷ [])
    ≡ (if (nat_le 48 a && nat_le a 57) && (nat_le 48 b && nat_le b 57) then Ok ((a - 48) * 10 + (b - 48)) else Err NotANumber)
number_of_two a b =
    ⊎_elim
    (λ (first : is_ascii_digit a ≡ true).
    ⊎_elim
    (λ (second : is_ascii_digit b ≡ true).
    let tens = digit_worth a first in
    let ones = digit_worth b second in
    rw (first, second) (ap Ok (omega (arith, tens, ones))))
    (λ (second : is_ascii_digit b ≡ false). rw (first, second) refl)
    (cases_Bool (is_ascii_digit b)))
    (λ (first : is_ascii_digit a ≡ false). rw first refl)
    (cases_Bool (is_ascii_digit a))

-- the number of the two digits at a position
pub two_read : (bytes : List ℕ) (from : ℕ) → from + 1 < length bytes
    → number_in (take 2 (drop from bytes)) ≡ (if are_two_at bytes from then Ok (two_at bytes from) else Err NotANumber)
two_read bytes from h = ap number_in (two_bytes bytes from h) ∙ number_of_two (slice_index bytes from) (slice_index bytes (from + 1))

-- a number that was read, as an option
pub some_read : (b : Bool) (m n : ℕ) → ◌≡◌ {A = Result ℕ DateFault} (if b then Ok m else Err NotANumber) (Ok n)
    → ◌≡◌ {A = Option ℕ} (Some n) (if b then Some m else None)
some_read true m n e = cc
some_read false m n e = cc

-- no number was read, as an option
pub none_read : (b : Bool) (m : ℕ) (f : DateFault) → ◌≡◌ {A = Result ℕ DateFault} (if b then Ok m else Err NotANumber) (Err f)
    → ◌≡◌ {A = Option ℕ} None (if b then Some m else None)
none_read true m f e = cc
none_read false m f e = refl
