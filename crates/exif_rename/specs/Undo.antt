-- The lines that a run writes of what it did, and how they are read.
use Rattle.std.specs.Prelude.{◌≡◌, ℕ, zero, suc, ◌+◌, ◌*◌, ◌/◌, ◌%◌, ◌==◌, ◌&&◌, ◌||◌, List, [], ◌∷◌, ◌++◌, Bool, true, false, if◌then◌else◌, Option, Some, None, ⊤, codes, nat_lt, string_bytes}
use Rattle.std.specs.Char.{digit_char, digit_value, encode_utf8}
use Rattle.std.specs.List.{flat_map}
use Rattle.std.specs.Str.{chars}
use Rattle.exif_rename.specs.declared.undo.Step.{Step}

-- whether a line has the code of a character in its place: a control character, `\` or `>`
abbrev pub is_coded : ℕ → Bool
is_coded c = nat_lt c 32 || ((nat_lt 126 c && nat_lt c 160) || ((c == 92) || (c == 62)))

-- a character as a line has it: itself, or `\x` and two digits
abbrev pub coded : ℕ → List ℕ
coded c =
    if is_coded c then 92 ∷ 120 ∷ digit_char (c / 16) ∷ digit_char (c % 16) ∷ [] else encode_utf8 c

-- a path as a line has it
abbrev pub written : List ℕ → List ℕ
written path = flat_map coded (chars path)

-- what follows the first path: ` -` of a file that was moved, ` =` of one that was copied
abbrev pub mark : Bool → List ℕ
mark true = codes " ="
mark false = codes " -"

-- the line of a file
abbrev pub line_of : Bool → List ℕ → List ℕ → List ℕ
line_of copied from to = written from ++ (mark copied ++ (codes "> " ++ written to))

abbrev pub step_of : Step → Bool × (List ℕ × List ℕ)
step_of step = (step.copied, (string_bytes step.from, string_bytes step.to))

-- a line is that of what is read of it
abbrev pub IsOfLine : List ℕ → Option Step → Type 0
IsOfLine line None = ⊤
IsOfLine line (Some step) =
    line ≡ line_of step.copied (string_bytes step.from) (string_bytes step.to)

-- the character whose code follows a `\`, and how many characters it takes
abbrev pub escape : List ℕ → Option (ℕ × ℕ)
escape (x ∷ high ∷ low ∷ rest) =
    if (x == 120) && (nat_lt (digit_value high) 16 && nat_lt (digit_value low) 16)
    then Some (digit_value high * 16 + digit_value low, 3) else None
escape (x ∷ high ∷ []) = None
escape (x ∷ []) = None
escape [] = None

-- the character that a path has next, and how many more it takes
abbrev pub char_at : ℕ → List ℕ → Option (ℕ × ℕ)
char_at first rest =
    if first == 62 then None else if first == 92 then escape rest else Some (first, 0)

-- a text before a path
abbrev pub with_text : List ℕ → List ℕ × List ℕ → List ℕ × List ℕ
with_text text found = (text ++ found.0, found.1)

-- The path that characters begin with, and those that follow it; the first few are of what is
-- before.
abbrev pub read : ℕ → List ℕ → List ℕ × List ℕ
read taken [] = ([], [])
read (suc taken) (first ∷ rest) = read taken rest
read zero (first ∷ rest) = elim (char_at first rest) [
  | None ↦ ([], first ∷ rest)
  | Some found ↦ with_text (encode_utf8 found.0) (read found.1 rest)
]
