-- The folder of a file (POSIX.1-2017, Base Definitions, 3.271, Pathname, and 4.13, Pathname
-- Resolution; `dirname` of the Shell and Utilities volume).
use Rattle.std.specs.Prelude.{ℕ, zero, suc, ◌==◌, List, [], ◌∷◌, take, codes, if◌then◌else◌, Option, None, Some}

-- where the last `/` (47) of these bytes is, which begin at an index; or else one before them
abbrev pub slash_from : Option ℕ → ℕ → List ℕ → Option ℕ
slash_from found at [] = found
slash_from found at (byte ∷ rest) = slash_from (if byte == 47 then Some at else found) (suc at) rest

abbrev pub last_slash : List ℕ → Option ℕ
last_slash path = slash_from None 0 path

-- what is before that `/`; the root where it is the first byte, and the folder of the process where
-- there is none
abbrev pub folder_by : Option ℕ → List ℕ → List ℕ
folder_by None path = codes "."
folder_by (Some zero) path = codes "/"
folder_by (Some (suc at)) path = take (suc at) path

abbrev pub folder_of : List ℕ → List ℕ
folder_of path = folder_by (last_slash path) path
