-- Fractions as decimals, cut after nine places.
use Rattle.std.specs.Prelude.{ℕ, zero, suc, ◌+◌, ◌*◌, ◌/◌, ◌%◌, ◌==◌, ◌^◌, if◌then◌else◌, List, [], ◌∷◌, ◌++◌, Bool, false, not, ◌&&◌, codes, ℤ, unsigned_abs}
use Rattle.std.specs.Int.{is_negative}
use Rattle.std.specs.Fmt.{decimal, sign_text}
use Rattle.exif_text.specs.declared.rational.Rational.{Rational}
use Rattle.exif_text.specs.declared.rational.SRational.{SRational}
use Rattle.exif_text.specs.declared.decimal.Decimal.{Decimal}

-- a number below 10 ^ k with k digits
unfoldable pub in_digits : ℕ → ℕ → List ℕ
in_digits zero n = []
in_digits (suc k) n = (48 + n / 10 ^ k) ∷ in_digits k (n % 10 ^ k)

-- d before ds, but for a zero at the end
abbrev pub push_unless_last_zero : ℕ → List ℕ → List ℕ
push_unless_last_zero d [] = if d == 48 then [] else d ∷ []
push_unless_last_zero d (e ∷ es) = d ∷ e ∷ es

-- the digits without the zeros at their end
unfoldable pub without_last_zeros : List ℕ → List ℕ
without_last_zeros [] = []
without_last_zeros (d ∷ ds) = push_unless_last_zero d (without_last_zeros ds)

-- what is behind the whole part, for that many billionths below one: nothing, or a point and
-- digits
unfoldable pub fraction_text : ℕ → List ℕ
fraction_text billionths = if billionths == 0 then []
    else 46 ∷ without_last_zeros (in_digits 9 billionths)

-- that many billionths
abbrev pub billionths_text : ℕ → List ℕ
billionths_text n = decimal (n / 10 ^ 9) ++ fraction_text (n % 10 ^ 9)

-- a fraction of these magnitudes, cut after nine places: over 0 `num/0`, and 0 without a sign
unfoldable pub decimal_text : Bool → ℕ → ℕ → List ℕ
decimal_text negative num denom =
    if denom == 0 then sign_text negative ++ (decimal num ++ codes "/0")
    else (let n = num * 10 ^ 9 / denom in sign_text (negative && not (n == 0)) ++ billionths_text n)

-- exactly one of the two is negative
abbrev pub signs_differ : ℤ → ℤ → Bool
signs_differ a b = if is_negative a then not (is_negative b) else is_negative b

-- a fraction without sign as a decimal
abbrev pub rational_decimal : Rational → List ℕ
rational_decimal r = decimal_text false r.num r.denom

-- a fraction with sign as a decimal, negative where the signs differ
abbrev pub srational_decimal : SRational → List ℕ
srational_decimal r = decimal_text (signs_differ r.num r.denom) (unsigned_abs r.num)
    (unsigned_abs r.denom)

-- the text of what `decimal()` answers
abbrev pub shown_decimal : Decimal → List ℕ
shown_decimal d = decimal_text d.negative d.num d.denom
