-- Names and values as they are printed for people: control characters (ISO/IEC 6429) would change
-- what a terminal shows.
use Rattle.std.specs.Prelude.{ℕ, zero, suc, ◌/◌, ◌%◌, ◌==◌, List, [], ◌∷◌, ◌++◌, if◌then◌else◌, codes, drop, false, length, take}
use Rattle.std.specs.Char.{encode_utf8, is_control}
use Rattle.std.specs.List.{flat_map}
use Rattle.std.specs.Fmt.{digit_glyph}
use Rattle.std.specs.Str.{chars}
use Rattle.std.specs.Str.Lossy.{utf8_valid_len}

-- a character, or `\x` and two lower hexadecimal digits where it is a control character
abbrev pub escaped_other : ℕ → List ℕ
escaped_other c =
    if is_control c
    then codes "\\x" ++ digit_glyph false (c / 16) ∷ digit_glyph false (c % 16) ∷ []
    else encode_utf8 c

-- the same, with the short escapes of C; a zero stands for a byte that is no UTF-8, whose digits
-- follow
abbrev pub escaped_char : ℕ → List ℕ
escaped_char c =
    if c == 10 then codes "\\n" else
    if c == 13 then codes "\\r" else
    if c == 9 then codes "\\t" else
    if c == 0 then codes "\\x" else escaped_other c

-- all characters of a text
abbrev pub escaped_text : List ℕ → List ℕ
escaped_text text = flat_map escaped_char (chars text)

-- ---- names that are no UTF-8 (RFC 3629)

-- a byte that is none: a zero byte, which no file's name has, and two lower hexadecimal digits
abbrev pub marked : ℕ → List ℕ
marked byte = 0 ∷ digit_glyph false (byte / 16) ∷ digit_glyph false (byte % 16) ∷ []

-- the first of bytes, if there is one
abbrev pub marked_first : List ℕ → List ℕ
marked_first [] = []
marked_first (byte ∷ rest) = marked byte

-- `readable`, where at most so many bytes are none
abbrev pub readable_within : ℕ → List ℕ → List ℕ
readable_within zero name = name
readable_within (suc n) name =
    let behind = drop (utf8_valid_len name) name in
    if length behind == 0 then name else
    take (utf8_valid_len name) name ++ (marked_first behind ++ readable_within n (drop 1 behind))

-- a name as text: its longest front that is UTF-8 stays, the byte behind it is marked, and so on
unfoldable pub readable : List ℕ → List ℕ
readable name = readable_within (length name) name
