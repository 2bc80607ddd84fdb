-- Numbers with a sign in a text (ISO 6709:2008, Annex H).
use Rattle.std.specs.Prelude.{ℕ, ◌+◌, ◌-◌, List, [], ◌∷◌, length, take, drop, slice_index, Bool, not, ◌||◌, ◌==◌, Option, Some, None, if◌then◌else◌}
use Rattle.exif_movie_facts.specs.Digits.{digit_count}
use Rattle.exif_movie_facts.specs.declared.token.Token.{Token}

-- whether a byte is a sign: + or -
abbrev pub is_sign : ℕ → Bool
is_sign b = (b == 43) || (b == 45)

-- how many bytes a decimal point takes, if bytes begin with one
abbrev pub point_len : List ℕ → ℕ
point_len [] = 0
point_len (b ∷ bytes) = if b == 46 then 1 else 0

-- how many digits follow a point of so many bytes
abbrev pub fraction_count : ℕ → List ℕ → ℕ
fraction_count point bytes = if point == 0 then 0 else digit_count bytes

-- the number with so many digits before the point
abbrev pub pointed : Bool → List ℕ → ℕ → ℕ → Token
pointed negative bytes whole point = record {
  negative = negative;
  whole_len = whole;
  fraction_start = 1 + whole + point;
  end = 1 + whole + point + fraction_count point (drop (1 + whole + point) bytes);
}

abbrev pub with_whole : Bool → List ℕ → ℕ → Option Token
with_whole negative bytes whole =
    if whole == 0 then None else
    Some (pointed negative bytes whole (point_len (drop (1 + whole) bytes)))

-- the number of a text that begins with a sign
abbrev pub signed : Bool → List ℕ → Option Token
signed negative bytes = with_whole negative bytes (digit_count (drop 1 bytes))

-- the number with a sign that a text begins with
abbrev pub token_of : List ℕ → Option Token
token_of bytes =
    if (length bytes == 0) || not (is_sign (slice_index bytes 0)) then None
    else signed (slice_index bytes 0 == 45) bytes

-- the digits before the point of a number in a text
abbrev pub whole_of : Token → List ℕ → List ℕ
whole_of token bytes = take token.whole_len (drop 1 bytes)

-- the digits after the point
abbrev pub fraction_of : Token → List ℕ → List ℕ
fraction_of token bytes = take (token.end - token.fraction_start) (drop token.fraction_start bytes)
