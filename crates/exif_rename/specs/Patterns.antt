-- Patterns of names, as lists of characters.
use Rattle.std.specs.Prelude.{ℕ, zero, suc, ◌+◌, ◌==◌, ◌&&◌, List, [], ◌∷◌, ◌++◌, Bool, true, false, if◌then◌else◌, Option, Some, None, Result, Ok, Err, codes, nat_eq, length}
use Rattle.std.specs.List.{starts_with, list_any}
use Rattle.exif_rename.specs.declared.pattern.Pattern.{Pattern}
use Rattle.exif_rename.specs.declared.pattern.Part.{Part}
use Rattle.exif_rename.specs.declared.pattern.Part.TheVariants.{Literal, Date, Make, Model, Name}
use Rattle.exif_rename.specs.declared.pattern.DatePart.TheVariants.{Year, ShortYear, Month, Day, Hour, Minute, Second}
use Rattle.exif_rename.specs.declared.pattern.Fault.{Fault}
use Rattle.exif_rename.specs.declared.pattern.Fault.TheVariants.{Empty, PercentAtEnd, UnknownLetter, UnknownName, UnclosedBrace, LoneBrace, NoName}
use Rattle.exif_rename.specs.declared.pattern.PatternError.{PatternError}

abbrev pub parts_of : Pattern → List Part
parts_of pattern = pattern.parts.items

-- the part of a letter after `%`: `Y y m d H M S %`
abbrev pub letter_part : ℕ → Option Part
letter_part letter =
    if letter == 89 then Some (Date Year)
    else if letter == 121 then Some (Date ShortYear)
    else if letter == 109 then Some (Date Month)
    else if letter == 100 then Some (Date Day)
    else if letter == 72 then Some (Date Hour)
    else if letter == 77 then Some (Date Minute)
    else if letter == 83 then Some (Date Second)
    else if letter == 37 then Some (Literal 37)
    else None

-- the part after `%`, and how many characters it takes
abbrev pub percent_part : List ℕ → Result (Part × ℕ) Fault
percent_part [] = Err PercentAtEnd
percent_part (letter ∷ rest) =
    elim (letter_part letter) [ None ↦ Err UnknownLetter | Some part ↦ Ok (part, 1) ]

-- the part after `{` (123), up to `}` (125)
abbrev pub brace_part : List ℕ → Result (Part × ℕ) Fault
brace_part rest =
    if starts_with nat_eq rest (123 ∷ []) then Ok (Literal 123, 1)
    else if starts_with nat_eq rest (codes "Make}") then Ok (Make, 5)
    else if starts_with nat_eq rest (codes "Model}") then Ok (Model, 6)
    else if starts_with nat_eq rest (codes "Name}") then Ok (Name, 5)
    else if list_any (λ c. c == 125) rest then Err UnknownName
    else Err UnclosedBrace

-- the part after `}`
abbrev pub close_part : List ℕ → Result (Part × ℕ) Fault
close_part rest =
    if starts_with nat_eq rest (125 ∷ []) then Ok (Literal 125, 1) else Err LoneBrace

-- the part that begins with a character, and how many more it takes
abbrev pub part_at : ℕ → List ℕ → Result (Part × ℕ) Fault
part_at first rest =
    if first == 37 then percent_part rest
    else if first == 123 then brace_part rest
    else if first == 125 then close_part rest
    else Ok (Literal first, 0)

-- a part in front of others
abbrev pub with_part : Part → Result (List Part) PatternError → Result (List Part) PatternError
with_part part (Ok parts) = Ok (part ∷ parts)
with_part part (Err error) = Err error

-- The parts of a text after some characters, of which the part before takes a few more.
abbrev pub parts_in : ℕ → ℕ → List ℕ → Result (List Part) PatternError
parts_in taken at [] = Ok []
parts_in (suc taken) at (first ∷ rest) = parts_in taken (at + 1) rest
parts_in zero at (first ∷ rest) = elim (part_at first rest) [
  | Err fault ↦ Err (record { fault = fault; at = at })
  | Ok found ↦ with_part found.0 (parts_in found.1 (at + 1) rest)
]

-- whether a name is empty, `.` or `..`
abbrev pub is_no_name : List ℕ → Bool
is_no_name [] = true
is_no_name (first ∷ []) = first == 46
is_no_name (first ∷ second ∷ []) = (first == 46) && (second == 46)
is_no_name (first ∷ second ∷ third ∷ rest) = false

-- Where the first name between slashes (47) begins that is empty, `.` or `..`, where the name that
-- begins at a number is read so far.
abbrev pub no_name : ℕ → List ℕ → List ℕ → Option ℕ
no_name start name [] = if is_no_name name then Some start else None
no_name start name (c ∷ rest) =
    if c == 47 then (if is_no_name name then Some start else no_name (start + length name + 1) [] rest)
    else no_name start (name ++ c ∷ []) rest

-- a pattern none of whose names is empty, `.` or `..`
abbrev pub with_names : Option ℕ → List Part → Result (List Part) PatternError
with_names (Some at) parts = Err (record { fault = NoName; at = at })
with_names None parts = Ok parts

-- the parts of a pattern, or what is wrong first
abbrev pub parsed : List ℕ → Result (List Part) PatternError
parsed [] = Err (record { fault = Empty; at = 0 })
parsed (first ∷ rest) = elim (parts_in 0 0 (first ∷ rest)) [
  | Err error ↦ Err error
  | Ok parts ↦ with_names (no_name 0 [] (first ∷ rest)) parts
]
