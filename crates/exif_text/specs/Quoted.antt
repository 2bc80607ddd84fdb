-- Texts in quotes.
use Rattle.std.specs.Prelude.{ℕ, Bool, not, ◌/◌, ◌%◌, ◌==◌, ◌||◌, ◌&&◌, nat_le, if◌then◌else◌, List, [], ◌∷◌, ◌++◌, false}
use Rattle.std.specs.List.{flat_map}
use Rattle.std.specs.Fmt.{digit_glyph}

-- two lower hexadecimal digits
abbrev pub hex_byte : ℕ → List ℕ
hex_byte b = digit_glyph false (b / 16) ∷ digit_glyph false (b % 16) ∷ []

-- a byte between the quotes: `"` and `\` behind a `\`, printable ASCII itself, others `\x` and two
-- digits
abbrev pub escaped : ℕ → List ℕ
escaped b =
    if b == 34 || b == 92 then 92 ∷ b ∷ []
    else (if nat_le 0x20 b && nat_le b 0x7e then b ∷ [] else 92 ∷ 120 ∷ hex_byte b)

-- whether a byte is between the quotes as it is
abbrev pub is_plain : ℕ → Bool
is_plain b = nat_le 0x20 b && nat_le b 0x7e && not (b == 34) && not (b == 92)

-- the bytes in quotes
abbrev pub quoted : List ℕ → List ℕ
quoted bytes = 34 ∷ (flat_map escaped bytes ++ (34 ∷ []))
