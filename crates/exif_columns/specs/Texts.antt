-- Texts of a picture: UTF-8 where they are, else Latin-1 (ISO 8859-1).
use Rattle.std.specs.Prelude.{ℕ, List, [], ◌∷◌, ◌++◌, if◌then◌else◌}
use Rattle.std.specs.Char.{encode_utf8}
use Rattle.std.specs.List.{flat_map}
use Rattle.std.specs.Str.{is_utf8}

-- each byte is the character of its number
abbrev pub latin1 : List ℕ → List ℕ
latin1 bytes = flat_map encode_utf8 bytes

-- bytes as a text
abbrev pub text_of : List ℕ → List ℕ
text_of bytes = if is_utf8 bytes then bytes else latin1 bytes

-- the texts of items, with a byte between each two
abbrev pub separated : {X : Type 0} → ℕ → (X → List ℕ) → List X → List ℕ
separated mark text [] = []
separated mark text (x ∷ xs) = text x ++ flat_map (λ y. mark ∷ text y) xs
