-- Texts as they are written in a packet (Extensible Markup Language 1.0, 2.4 and 4.6).
use Rattle.std.specs.Prelude.{ℕ, ◌==◌, ◌&&◌, ◌||◌, not, if◌then◌else◌, List, [], ◌∷◌, ◌++◌, codes}
use Rattle.std.specs.List.{flat_map}
use Rattle.exif_xmp_set.specs.declared.context.Context.{Context}
use Rattle.exif_xmp_set.specs.declared.context.Context.TheVariants.{Content, EmptyTag, Quotes}

-- references of `&`, `<` and `>`, and of CR, which as itself would be read as LF (2.11)
abbrev pub markup_byte : ℕ → List ℕ
markup_byte byte =
    if byte == 38 then codes "&amp;"
    else (if byte == 60 then codes "&lt;"
    else (if byte == 62 then codes "&gt;"
    else (if byte == 13 then codes "&#13;"
    else byte ∷ [])))

-- and of quotes, and of tab and LF, which as themselves would be read as spaces (3.3.3)
abbrev pub quoted_byte : ℕ → List ℕ
quoted_byte byte =
    if byte == 34 then codes "&quot;"
    else (if byte == 39 then codes "&#39;"
    else (if byte == 9 then codes "&#9;"
    else (if byte == 10 then codes "&#10;"
    else markup_byte byte)))

-- the other quote is written as itself
abbrev pub escaped_byte : Context → ℕ → List ℕ
escaped_byte (Quotes quote) byte =
    if ((byte == 34) || (byte == 39)) && not (byte == quote) then markup_byte byte else
    quoted_byte byte
escaped_byte Content byte = markup_byte byte
escaped_byte EmptyTag byte = markup_byte byte

-- a text, byte by byte
unfoldable pub escaped : Context → List ℕ → List ℕ
escaped context text = flat_map (escaped_byte context) text

-- a text with the tags that it needs: in place of `/>` the end of a start tag, and an end tag
abbrev pub written : Context → List ℕ → List ℕ → List ℕ
written EmptyTag name text =
    codes ">" ++ (escaped EmptyTag text ++ (codes "</" ++ (name ++ codes ">")))
written Content name text = escaped Content text
written (Quotes quote) name text = escaped (Quotes quote) text
