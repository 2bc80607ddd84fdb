-- Decimal numbers, exactly (ISO 6709:2008, Annex H: digits in ASCII).
use Rattle.std.specs.Prelude.{ℕ, suc, ◌+◌, ◌*◌, ◌%◌, List, [], ◌∷◌, nat_le, nat_lt, Bool, ◌&&◌, ◌||◌, Option, Some, None, if◌then◌else◌}
use Rattle.exif_movie_facts.specs.declared.digits.Count.{Count}

-- whether a byte is a digit
abbrev pub is_digit : ℕ → Bool
is_digit b = nat_le 48 b && nat_le b 57

-- how many digits the bytes begin with
abbrev pub digit_count : List ℕ → ℕ
digit_count [] = 0
digit_count (b ∷ bytes) = if is_digit b then suc (digit_count bytes) else 0

-- whether a number is too large for another digit, or its unit is too small
abbrev pub is_full : ℕ → ℕ → Bool
is_full value scale = nat_lt 1000000000000000 value || nat_lt 1000000000000000 scale

-- a number of units, of which `scale` are one, with digits appended; with each the unit becomes a
-- tenth; a digit is the low four bits of its byte
abbrev pub appended : ℕ → ℕ → List ℕ → Option Count
appended value scale [] = Some (record { value = value; scale = scale })
appended value scale (b ∷ digits) =
    if is_full value scale then None
    else appended (10 * value + b % 16) (10 * scale) digits
