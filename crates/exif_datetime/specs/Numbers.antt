-- Numbers that digits spell.
use Rattle.std.specs.Prelude.{ℕ, ◌+◌, ◌-◌, ◌*◌, ◌==◌, ◌&&◌, nat_lt, if◌then◌else◌, List, [], ◌∷◌, ◌++◌, Option, Some, None}
use Rattle.std.specs.Borrow.{Bor}
use Rattle.std.specs.Char.{is_ascii_digit}
use Rattle.std.specs.Option.{option_and_then}

-- a number with one more digit, if it is below a limit then
abbrev pub next_below : ℕ → ℕ → ℕ → Option ℕ
next_below limit number digit =
    if is_ascii_digit digit && nat_lt (number * 10 + (digit - 48)) limit
    then Some (number * 10 + (digit - 48)) else None

-- a number with more digits, if it stays below a limit
abbrev pub digits_below : ℕ → List ℕ → ℕ → Option ℕ
digits_below limit [] number = Some number
digits_below limit (digit ∷ digits) number =
    option_and_then (digits_below limit digits) (next_below limit number digit)

-- the number that digits spell, if it is below a limit
abbrev pub number_below : ℕ → List ℕ → Option ℕ
number_below limit [] = None
number_below limit (digit ∷ digits) = digits_below limit (digit ∷ digits) 0

-- the parts before and behind the first byte like this, where so much is before it already
abbrev pub cut_behind : ℕ → List ℕ → List ℕ → Option (List ℕ × List ℕ)
cut_behind mark before [] = None
cut_behind mark before (byte ∷ bytes) =
    if byte == mark then Some (before, bytes) else cut_behind mark (before ++ byte ∷ []) bytes

-- the parts before and behind the first byte like this
abbrev pub cut : ℕ → List ℕ → Option (List ℕ × List ℕ)
cut mark text = cut_behind mark [] text

-- two borrowed parts
abbrev pub both_parts : Bor (List ℕ) × Bor (List ℕ) → List ℕ × List ℕ
both_parts (before, behind) = (before.now, behind.now)
