-- A number that is too large for another digit.
use Rattle.std.proofs.Common.{◌≡◌, ◌<◌, ◌≤◌, ◌+◌, ◌*◌, ◌%◌, ℕ, suc, zero, Bool, true, if◌then◌else◌, List, [], ◌∷◌, length, drop, Option, None, ap, arith}
use Rattle.exif_movie_facts.specs.Digits.{appended, is_full}
use Rattle.exif_movie_facts.specs.declared.digits.Count.{Count}

full_over : (value scale : ℕ) (digits : List ℕ) → 0 < length digits → is_full value scale ≡ true → appended value scale digits ≡ None
full_over value scale [] h e = absurd (omega arith)
full_over value scale (b ∷ digits) h e =
    ap (λ (t : Bool). if t then None else appended (10 * value + b % 16) (10 * scale) digits) e

-- at the n-th of the digits
pub full_at : (value scale n : ℕ) (digits : List ℕ) → n < length digits → is_full value scale ≡ true → appended value scale (drop n digits) ≡ None
full_at value scale n [] h e = absurd (omega arith)
full_at value scale zero (b ∷ digits) h e = full_over value scale (b ∷ digits) (omega arith) e
full_at value scale (suc n) (b ∷ digits) h e = full_at value scale n digits (omega arith) e
