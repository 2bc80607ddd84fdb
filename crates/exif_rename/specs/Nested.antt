-- The folder that a new path is below.
use Rattle.std.specs.Prelude.{◌≡◌, ◌≢◌, ℕ, ◌+◌, ◌==◌, List, [], ◌∷◌, ◌++◌, if◌then◌else◌, take}

-- where the last `/` (47) of a name is, if one is found from an index on
abbrev pub slash_after : ℕ → ℕ → List ℕ → ℕ
slash_after found index [] = found
slash_after found index (c ∷ rest) = slash_after (if c == 47 then index else found) (index + 1) rest

-- the folders of a new name, without the file's own name
abbrev pub folders_of : List ℕ → List ℕ
folders_of name = take (slash_after 0 0 name) name

-- a folder is another one followed by the folders of a new name
abbrev pub IsNested : List ℕ → List ℕ → List ℕ → Type 0
IsNested folder name root = (folders_of name ≢ []) × (folder ≡ root ++ 47 ∷ folders_of name)
