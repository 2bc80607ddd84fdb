-- Texts in HTML (HTML Living Standard, 13.1.4 "Character references").
use Rattle.std.specs.Prelude.{ℕ, ◌==◌, ◌||◌, Bool, not, if◌then◌else◌, List, [], ◌∷◌, ◌++◌, Option, None, Some, codes}
use Rattle.std.specs.List.{flat_map, list_all}
use denote.Ref.{Bor}

-- the character reference of `&`, `<`, `>`, `"` and `'`; another byte is itself
abbrev pub escaped_byte : ℕ → List ℕ
escaped_byte byte =
    if byte == 38 then codes "&amp;"
    else (if byte == 60 then codes "&lt;"
    else (if byte == 62 then codes "&gt;"
    else (if byte == 34 then codes "&quot;"
    else (if byte == 39 then codes "&#39;"
    else byte ∷ []))))

-- a text, byte by byte
unfoldable pub escaped : List ℕ → List ℕ
escaped text = flat_map escaped_byte text

-- whether a byte neither begins or ends a tag, nor ends the value of an attribute
abbrev pub is_plain : ℕ → Bool
is_plain byte = not ((byte == 60) || ((byte == 62) || ((byte == 34) || (byte == 39))))

-- a text between two pieces of markup
unfoldable pub between : List ℕ → List ℕ → List ℕ → List ℕ
between before text after = before ++ (escaped text ++ after)

-- the same where there is a text, and else nothing
unfoldable pub between_if : List ℕ → Option (Bor (List ℕ)) → List ℕ → List ℕ
between_if before None after = []
between_if before (Some text) after = between before text.now after

-- whether all bytes of a text are like this
abbrev pub is_plain_text : List ℕ → Bool
is_plain_text text = list_all is_plain text
