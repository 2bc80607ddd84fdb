-- What the JSON of a value determines.
use Rattle.std.specs.Prelude.{◌≡◌, ℕ, ℤ, ◌^◌, ◌<◌, List}
use Rattle.std.specs.Int.Signed.{mag}
use Rattle.std.specs.List.{All}
use Rattle.exif_text.specs.declared.rational.Rational as R
use Rattle.exif_text.specs.declared.rational.SRational as S
use Rattle.exif_types.specs.declared.value.Value.{Value}
use Rattle.exif_json.specs.Values.{value_json}

-- lists of items of a kind whose values have the same JSON are the same
abbrev pub JsonDetermines : {A : Type 0} → (A → Type 0) → (List A → Value) → Type 0
JsonDetermines {A = A} P kind =
    (xs ys : List A) → All P xs → All P ys → value_json (kind xs) ≡ value_json (kind ys) → xs ≡ ys

-- a number of so many bits, one of 64 bits with its sign, and the two of a fraction
abbrev pub IsBelow : ℕ → ℕ → Type 0
IsBelow bits n = n < 2 ^ bits

-- a number with a sign, whose absolute value 63 bits hold
abbrev pub IsSigned : ℤ → Type 0
IsSigned z = mag z < 2 ^ 63

-- a fraction whose two numbers 64 bits hold
abbrev pub IsFraction : R.Rational → Type 0
IsFraction r = (r.num < 2 ^ 64) × (r.denom < 2 ^ 64)

-- a fraction of two numbers with signs, whose absolute values 63 bits hold
abbrev pub IsSignedFraction : S.SRational → Type 0
IsSignedFraction r = IsSigned r.num × IsSigned r.denom
