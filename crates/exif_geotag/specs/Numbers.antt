-- Decimal numbers (XML Schema Part 2, 3.2.3), as whole units above a lower limit.
use Rattle.std.specs.Prelude.{ℕ, ◌+◌, ◌-◌, ◌*◌, ◌/◌, ◌==◌, ◌&&◌, ◌||◌, nat_le, nat_lt, Bool, if◌then◌else◌, List, [], ◌∷◌, drop, slice_index, Option, Some, None}
use Rattle.std.specs.Char.{is_ascii_digit}
use Rattle.std.specs.Option.{option_and_then}

-- a whole number with one more digit, if it stays below 2^32
abbrev pub next_whole : ℕ → ℕ → Option ℕ
next_whole number digit =
    if is_ascii_digit digit && nat_lt (number * 10 + (digit - 48)) 4294967296
    then Some (number * 10 + (digit - 48)) else None

-- a number, and the digits of a fraction: the first counts `unit`, each further one a tenth of that
abbrev pub fraction_of : ℕ → List ℕ → ℕ → Option ℕ
fraction_of unit [] number = Some number
fraction_of unit (digit ∷ digits) number =
    if is_ascii_digit digit then fraction_of (unit / 10) digits (number + (digit - 48) * unit)
    else None

-- digits, and a fraction behind a point, in units of which `scale` are one; the digits before are
-- `number`
abbrev pub whole_of : ℕ → List ℕ → ℕ → Option ℕ
whole_of scale [] number = Some (number * scale)
whole_of scale (byte ∷ bytes) number =
    if byte == 46 then fraction_of (scale / 10) bytes (number * scale)
    else option_and_then (whole_of scale bytes) (next_whole number byte)

-- whether a number without a sign begins here: with a digit, or with a point and a digit
abbrev pub begins_number : List ℕ → Bool
begins_number text =
    is_ascii_digit (slice_index text 0)
    || ((slice_index text 0 == 46) && is_ascii_digit (slice_index text 1))

-- a number without a sign
abbrev pub decimal_of : ℕ → List ℕ → Option ℕ
decimal_of scale text = if begins_number text then whole_of scale text 0 else None

-- this many units below zero, above `-base`
abbrev pub below : ℕ → ℕ → Option ℕ
below base size = if nat_le size base then Some (base - size) else None

-- this many units from zero on, above `-base`
abbrev pub above : ℕ → ℕ → Option ℕ
above base size = if nat_le size base then Some (base + size) else None

-- the number that a text without its minus spells, above `-base`
unfoldable pub negative_of : ℕ → ℕ → List ℕ → Option ℕ
negative_of base scale text = option_and_then (below base) (decimal_of scale text)

-- the number that a text without a sign spells, above `-base`
unfoldable pub positive_of : ℕ → ℕ → List ℕ → Option ℕ
positive_of base scale text = option_and_then (above base) (decimal_of scale text)

-- the number that a text spells, from `-base` to `base`, in units of which `scale` are one, and
-- counted from `-base` on
abbrev pub number_of : ℕ → ℕ → List ℕ → Option ℕ
number_of base scale text =
    if slice_index text 0 == 45 then negative_of base scale (drop 1 text)
    else (if slice_index text 0 == 43 then positive_of base scale (drop 1 text)
    else positive_of base scale text)
