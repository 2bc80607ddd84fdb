-- Degrees with seven digits behind the point are a number of JSON.
use Rattle.std.proofs.Common.{◌≡◌, ℕ, zero, suc, ◌-◌, ◌^◌, ◌<◌, ◌/◌, ◌%◌, Bool, true, false, List, [], ◌∷◌, ◌++◌, length, replicate, refl, sym, ap, arith, append-nil, length-append, slice_index, subst, cond}
use Rattle.std.proofs.Math.Nat.{mod-lt}
use Rattle.std.proofs.lemmas.Fmt.{decimal_digit, decimal_is_IsNumeral, first_decimal}
use Rattle.std.specs.Fmt.{decimal, sign_text}
use Rattle.std.specs.Float.Numeral.{Parts}
use Rattle.std.specs.Str.Parse.{AllDigits}
use Rattle.json.specs.Print.{IsNumber}
use Rattle.json.proofs.Printed.Floats.{IsNumber-plain}
use Rattle.ryu.specs.Plain.{IsPlain}
use Rattle.exif_text.specs.Plain.{zero_filled}
use Rattle.exif_summary.specs.Coordinates.{degrees_text}

true_is_no_false : true ≡ false → ⊥
true_is_no_false e = subst (λ b. cond b (Unit {0}) ⊥) e tt

digits_append : (xs ys : List ℕ) → AllDigits 10 xs → AllDigits 10 ys → AllDigits 10 (xs ++ ys)
digits_append [] ys h k = k
digits_append (x ∷ xs) ys h k = (h.0, digits_append xs ys h.1 k)

zeros_are_digits : (k : ℕ) → AllDigits 10 (replicate k 48)
zeros_are_digits zero = tt
zeros_are_digits (suc k) = (omega arith, zeros_are_digits k)

filled_digits : (k : ℕ) (text : List ℕ) → AllDigits 10 text → AllDigits 10 (zero_filled k text)
unfolding zero_filled
filled_digits k text h = digits_append (replicate (k - length text) 48) text (zeros_are_digits (k - length text)) h

filled_some : (k : ℕ) (text : List ℕ) → 0 < length text → 0 < length (zero_filled k text)
unfolding zero_filled
filled_some k text some = omega (arith, length-append (replicate (k - length text) 48) text)

-- no 0 is before another digit
no_leading_zero : (n : ℕ) → n < 2 ^ 64 → slice_index (decimal n) 0 ≡ 48 → length (decimal n) ≡ 1
no_leading_zero zero h is = ap length (decimal_digit 0 (omega arith))
no_leading_zero (suc n) h is = absurd (omega (arith, first_decimal (suc n) (omega arith) h, is))

parts_of : ℕ → List ℕ → Parts
parts_of whole fraction = record {
  whole = decimal whole;
  point = true;
  fraction = fraction;
  exponent_negative = false;
  exponent = [];
  len = length (decimal whole ++ (46 ∷ (fraction ++ [])));
}

plain_parts : (whole part : ℕ) → whole < 2 ^ 64 → part < 2 ^ 64 → IsPlain (parts_of whole (zero_filled 7 (decimal part)))
unfolding parts_of
plain_parts whole part w p =
    let numeral = (decimal_is_IsNumeral whole w).0 in
    let digits = (decimal_is_IsNumeral part p).0 in
    record {
      well_formed = record {
        whole_digits = numeral.1;
        fraction_digits = filled_digits 7 (decimal part) digits.1;
        exponent_digits = tt;
        no_point = λ e. absurd (true_is_no_false e);
        no_exponent = λ e. refl;
        len_is = refl;
      };
      whole = numeral.0;
      no_leading_zero = no_leading_zero whole w;
      fraction = λ e. filled_some 7 (decimal part) digits.0;
      marked = λ e. absurd (true_is_no_false e);
    }

-- degrees with seven digits behind the point, of fewer than 2^64 units, are a number of JSON
pub degrees_number : (negative : Bool) (units : ℕ) → units < 2 ^ 64 → IsNumber (degrees_text negative units)
unfolding parts_of
degrees_number negative units h =
    let fraction : List ℕ = zero_filled 7 (decimal (units % 10 ^ 7)) in
    let small : units % 10 ^ 7 < 10 ^ 7 = mod-lt units (omega arith) in
    let whole : units / 10 ^ 7 < 2 ^ 64 = omega arith in
    IsNumber-plain (degrees_text negative units)
    (negative, parts_of (units / 10 ^ 7) fraction, ap (λ z. sign_text negative ++ (decimal (units / 10 ^ 7) ++ (46 ∷ z))) (sym (append-nil fraction)), plain_parts (units / 10 ^ 7) (units % 10 ^ 7) whole (omega arith))
