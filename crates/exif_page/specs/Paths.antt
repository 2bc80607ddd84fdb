-- Names of files.
use Rattle.std.specs.Prelude.{ℕ, ◌==◌, if◌then◌else◌, List, [], ◌∷◌}

-- what is behind the last `/` of the rest, or else the name so far
abbrev pub name_behind : List ℕ → List ℕ → List ℕ
name_behind name [] = name
name_behind name (byte ∷ rest) =
    if byte == 47 then name_behind rest rest else name_behind name rest

-- what is behind the last `/` of a path
abbrev pub file_name : List ℕ → List ℕ
file_name path = name_behind path path
