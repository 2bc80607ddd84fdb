-- Paths and the names in them (POSIX.1-2017, Base Definitions, 3.271, Pathname, and 4.13, Pathname
-- Resolution).
use Rattle.std.specs.Prelude.{ℕ, ◌==◌, ◌&&◌, not, nat_eq, Bool, if◌then◌else◌, List, [], ◌∷◌, codes, length}
use Rattle.std.specs.List.{ends_with}
use Rattle.std.specs.Str.{bytes_eq}

-- what follows the last `/` (47) of these bytes, or else a name
abbrev pub name_after : List ℕ → List ℕ → List ℕ
name_after name [] = name
name_after name (byte ∷ rest) = name_after (if byte == 47 then rest else name) rest

-- the last part of a path
abbrev pub name_of : List ℕ → List ℕ
name_of path = name_after path path

-- what is between a folder and a name in it
abbrev pub slash_after : List ℕ → List ℕ
slash_after folder = if ends_with nat_eq folder (codes "/") then [] else codes "/"

-- whether a name in the listing of a folder is of something in it: `.` is the folder itself, and
-- `..` the one above
abbrev pub is_inside : List ℕ → Bool
is_inside name =
    not (length name == 0)
    && (not (bytes_eq name (codes ".")) && not (bytes_eq name (codes "..")))
