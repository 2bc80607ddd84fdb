-- What a plan promises: no two files get one path, and none is overwritten.
use Rattle.std.specs.Prelude.{◌≡◌, ⊤, ℕ, List, [], ◌∷◌, ◌++◌, Bool, true, false, map}
use Rattle.std.specs.List.{AllByRecursion}
use Rattle.exif_files.specs.Each.{is_among}
use Rattle.exif_rename.specs.RenameRequests.{Wanted, candidate, path_of, moves_by}

-- the new paths of all files, by the numbers of their requests
abbrev pub paths_by : List Wanted → List ℕ → List (List ℕ)
paths_by [] numbers = []
paths_by (wanted ∷ rest) [] = []
paths_by (wanted ∷ rest) (number ∷ numbers) =
    map (path_of (candidate wanted.base number)) wanted.files ++ paths_by rest numbers

-- the moves of all requests by their numbers, one request after the other
abbrev pub all_moves : List Wanted → List ℕ → List (List ℕ × List ℕ)
all_moves [] numbers = []
all_moves (wanted ∷ rest) [] = []
all_moves (wanted ∷ rest) (number ∷ numbers) = moves_by wanted number ++ all_moves rest numbers

-- each path is none of those before it
abbrev pub DifferAfter : List (List ℕ) → List (List ℕ) → Type 0
DifferAfter before [] = ⊤
DifferAfter before (path ∷ paths) =
    (is_among path before ≡ false) × DifferAfter (path ∷ before) paths

-- nothing has the path that a file is moved to
abbrev pub AreToFree : (List ℕ → Bool) → List (List ℕ × List ℕ) → Type 0
AreToFree free moves = AllByRecursion (λ made. free made.1 ≡ true) moves
