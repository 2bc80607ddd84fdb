-- The lines of a report as they are shown.
use Rattle.std.specs.Prelude.{ℕ, ◌+◌, ◌-◌, ◌==◌, ◌||◌, nat_eq, nat_le, Bool, if◌then◌else◌, List, [], ◌∷◌, ◌++◌, codes, drop, length, take}
use Rattle.std.specs.Char.{encode_utf8}
use Rattle.std.specs.Fmt.{decimal}
use Rattle.std.specs.List.{flat_map, starts_with}
use Rattle.std.specs.Str.{chars}
use Rattle.exif_decisions.specs.Escaping.{escaped_text}

-- how many bytes there are before the first line feed (10), or all, behind so many
abbrev pub line_len : ℕ → List ℕ → ℕ
line_len behind [] = behind
line_len behind (byte ∷ rest) = if byte == 10 then behind else line_len (behind + 1) rest

-- how many spaces a line has before its value: behind a tag and its directory, where a tag without
-- a name has one more in its parentheses; the text of a fault follows its first
abbrev pub spaces_of : List ℕ → ℕ
spaces_of line =
    if starts_with nat_eq line (codes "fault: ") then 1
    else if starts_with nat_eq line (codes "Tag(") then 3 else 2

-- how many bytes there are up to a space (32) with this number, behind so many; 0 where there is
-- none
abbrev pub len_through : ℕ → ℕ → List ℕ → ℕ
len_through behind spaces [] = 0
len_through behind spaces (byte ∷ rest) =
    if byte == 32 then
    (if nat_le spaces 1 then behind + 1 else len_through (behind + 1) (spaces - 1) rest)
    else len_through (behind + 1) spaces rest

-- how many bytes of a line are before its value
abbrev pub name_len : List ℕ → ℕ
name_len line = len_through 0 (spaces_of line) line

-- the first 60 characters of a value
abbrev pub front_of : List ℕ → List ℕ
front_of value = flat_map encode_utf8 (take 60 (chars value))

-- what is added of one more character, while so many are to be added yet
abbrev pub added : ℕ → ℕ → List ℕ
added left c = if left == 0 then [] else encode_utf8 c

-- a name, and the front of a value that has so many characters
abbrev pub in_short : List ℕ → List ℕ → ℕ → List ℕ
in_short name value count =
    escaped_text name ++ (escaped_text (front_of value)
    ++ (codes "... (" ++ (decimal count ++ codes " characters; --full shows all)\n")))

-- a line: a value of more than 200 characters in short, unless all is to be shown
abbrev pub shown : List ℕ → Bool → List ℕ
shown line full =
    let value = drop (name_len line) line in
    if full || nat_le (length (chars value)) 200 then escaped_text line ++ codes "\n"
    else in_short (take (name_len line) line) value (length (chars value))
