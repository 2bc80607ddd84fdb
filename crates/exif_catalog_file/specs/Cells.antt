-- The text of an answer, and what a query is.
use Rattle.std.specs.Prelude.{ℕ, List, [], ◌∷◌, Bool, true, false, ◌==◌, ◌&&◌, ◌||◌, not, nat_le, if◌then◌else◌, codes, map}
use Rattle.std.specs.Char.{eq_ignore_ascii_case, is_ascii_alphanumeric}
use Rattle.std.specs.List.{flat_map, join_with_byte}
use Rattle.std.specs.Str.{trim_start}

-- a byte that goes on with a word of SQL: a letter, a digit, `_` (95), or a byte of a character
-- that is not ASCII
abbrev pub is_word_byte : ℕ → Bool
is_word_byte byte = is_ascii_alphanumeric byte || byte == 95 || nat_le 128 byte

-- a text begins with a word, whatever the case of its letters
abbrev pub begins_word : List ℕ → List ℕ → Bool
begins_word [] [] = true
begins_word [] (letter ∷ letters) = false
begins_word (next ∷ rest) [] = not (is_word_byte next)
begins_word (byte ∷ rest) (letter ∷ letters) =
    eq_ignore_ascii_case byte letter && begins_word rest letters

-- behind white space, a text begins with SELECT or WITH
abbrev pub is_query : List ℕ → Bool
is_query sql =
    begins_word (trim_start sql) (codes "select") || begins_word (trim_start sql) (codes "with")

-- a byte of a value: a tab (9), a line feed (10), a carriage return (13) and a backslash (92) would
-- end it or be taken for another
abbrev pub tsv_byte : ℕ → List ℕ
tsv_byte byte =
    if byte == 9 then codes "\\t" else (if byte == 10 then codes "\\n"
    else (if byte == 13 then codes "\\r" else (if byte == 92 then codes "\\\\" else byte ∷ [])))

-- what is before a value of a line: a tab, but for the first
abbrev pub gap_before : ℕ → List ℕ
gap_before at = if at == 0 then [] else 9 ∷ []

-- a value between tabs
abbrev pub tsv_field : List ℕ → List ℕ
tsv_field bytes = flat_map tsv_byte bytes

-- names as a line, without its end: with tabs between them
abbrev pub names_line : List (List ℕ) → List ℕ
names_line names = join_with_byte 9 (map tsv_field names)
