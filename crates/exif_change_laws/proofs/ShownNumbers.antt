-- Numbers that are read of their texts.
use Rattle.std.proofs.Common.{◌≡◌, ◌<◌, ◌+◌, ◌^◌, ℕ, suc, pos, negsuc, neg_ℤ, List, [], ◌∷◌, ◌++◌, Some, decimal, option_map, refl, ap, arith}
use Rattle.exif_datetime.specs.Numbers.{number_below}
use Rattle.exif_assign.specs.Texts.{fraction, signed_below, srational_in}
use Rattle.exif_change_laws.proofs.ShownDigits.{decimal_of_number, decimal_read, digits_lack}
use Rattle.exif_change_laws.proofs.ShownFractions.{BeginsOther, begins_append, begins_lacking, minus_signed, plainly_signed, quotient_spelled}
use Rattle.exif_change_laws.proofs.ShownItems.{Spells}

-- a number below a limit
pub number_spelled : (limit n : ℕ) → n < 2 ^ 32 → n < limit → Spells (number_below limit) (decimal n) n
number_spelled limit n h small =
    let a = decimal_of_number n (omega arith) in
    record {
      reads = decimal_read limit n (omega arith) small;
      commas = digits_lack 44 (omega arith) (decimal n) a.digits;
      spaces = digits_lack 32 (omega arith) (decimal n) a.digits;
      some = a.some;
    }

-- a number without a minus
begins_digit : (n : ℕ) → n < 2 ^ 32 → BeginsOther 45 (decimal n)
begins_digit n h =
    let a = decimal_of_number n (omega arith) in
    begins_lacking 45 (decimal n) a.some (digits_lack 45 (omega arith) (decimal n) a.digits)

positive_read : (limit : ℕ) (text : List ℕ) (n : ℕ) → BeginsOther 45 text
    → number_below limit text ≡ Some n → signed_below limit text ≡ Some (pos n)
positive_read limit [] n h e = absurd h
positive_read limit (x ∷ xs) n h e = rw h (ap (option_map pos) e)

pub positive_spelled : (limit n : ℕ) → n < 2 ^ 32 → n < limit
    → Spells (signed_below limit) (decimal n) (pos n)
positive_spelled limit n h small =
    let s = number_spelled limit n h small in
    record {
      reads = positive_read limit (decimal n) n (begins_digit n h) s.reads;
      commas = s.commas;
      spaces = s.spaces;
      some = s.some;
    }

-- a number behind a minus
pub negative_spelled : (limit n : ℕ) → n < 2 ^ 31 → n < limit
    → Spells (signed_below limit) (45 ∷ decimal (suc n)) (negsuc n)
negative_spelled limit n h small =
    let s = number_spelled (limit + 1) (suc n) (omega arith) (omega arith) in
    record {
      reads = ap (option_map (λ m. neg_ℤ (pos m))) s.reads;
      commas = (refl, s.commas);
      spaces = (refl, s.spaces);
      some = tt;
    }

-- two numbers with signs around a slash
pub positive_quotient : (num denom : ℕ) → num < 2 ^ 31 → denom < 2 ^ 31
    → Spells srational_in (decimal num ++ 47 ∷ decimal denom) (record { num = pos num; denom = pos denom })
positive_quotient num denom h k =
    plainly_signed (decimal num ++ 47 ∷ decimal denom) (fraction num denom)
    (quotient_spelled num denom (omega arith) (omega arith))
    (begins_append 45 (decimal num) (47 ∷ decimal denom) (begins_digit num (omega arith))) h k

pub negative_quotient : (num denom : ℕ) → suc num < 2 ^ 31 → denom < 2 ^ 31
    → Spells srational_in (45 ∷ (decimal (suc num) ++ 47 ∷ decimal denom))
    (record { num = negsuc num; denom = pos denom })
negative_quotient num denom h k =
    minus_signed (decimal (suc num) ++ 47 ∷ decimal denom) (fraction (suc num) denom)
    (quotient_spelled (suc num) denom (omega arith) (omega arith)) h k
