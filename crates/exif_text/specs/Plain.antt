-- The plain text of a value.
use Rattle.std.specs.Prelude.{ℕ, false, ◌-◌, List, [], ◌∷◌, ◌++◌, codes, length, replicate}
use Rattle.std.specs.List.{flat_map}
use Rattle.std.specs.Fmt.{decimal, signed_decimal, digits}
use Rattle.exif_text.specs.Contents.{Plain, Bytes, Texts, Shorts, Longs, Rationals, SignedBytes, Undefined, SignedShorts, SignedLongs, SignedRationals, Floats, Doubles, Unknown}
use Rattle.exif_text.specs.Quoted.{quoted, hex_byte}
use Rattle.exif_text.specs.Rational.{rational_text, srational_text}

-- the texts of the items with a comma and a space between each two
abbrev pub listed : {X : Type 0} → (X → List ℕ) → List X → List ℕ
listed text [] = []
listed text (x ∷ xs) = text x ++ flat_map (λ y. codes ", " ++ text y) xs

-- the digits with zeros before them up to k offsets
unfoldable pub zero_filled : ℕ → List ℕ → List ℕ
zero_filled k text = replicate (k - length text) 48 ++ text

-- the number n as `0x` and at least k lower hexadecimal digits
abbrev pub bits_text : ℕ → ℕ → List ℕ
bits_text k n = codes "0x" ++ zero_filled k (digits 16 false n)

-- what is printed for a value of whose tag nothing more is known
abbrev pub plain_text : Plain → List ℕ
plain_text (Bytes xs) = listed decimal xs
plain_text (Texts xs) = listed quoted xs
plain_text (Shorts xs) = listed decimal xs
plain_text (Longs xs) = listed decimal xs
plain_text (Rationals xs) = listed rational_text xs
plain_text (SignedBytes xs) = listed signed_decimal xs
plain_text (Undefined xs) = codes "0x" ++ flat_map hex_byte xs
plain_text (SignedShorts xs) = listed signed_decimal xs
plain_text (SignedLongs xs) = listed signed_decimal xs
plain_text (SignedRationals xs) = listed srational_text xs
plain_text (Floats xs) = listed (bits_text 8) xs
plain_text (Doubles xs) = listed (bits_text 16) xs
plain_text (Unknown kind count offset) =
    codes "unknown value (type="
    ++ (decimal kind ++ (codes ", count="
    ++ (decimal count ++ (codes ", offset=0x" ++ (digits 16 false offset ++ codes ")")))))
