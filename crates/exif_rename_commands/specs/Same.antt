-- Whether two files have the same bytes.
use Rattle.std.specs.Prelude.{◌≡◌, ℕ, ◌==◌, ⊤, Bool, true, false, ◌&&◌, if◌then◌else◌, List, nat_lt, Option, Some, None}
use Rattle.std.specs.Str.{bytes_eq}

-- a path is that of a regular file, which is as long as another
abbrev pub may_be_same : Bool → ℕ → ℕ → Bool
may_be_same is_file old there = is_file && (old == there)

-- nothing follows two blocks that are not full, by how many bytes they have of how many
abbrev pub is_last : ℕ → ℕ → ℕ → ℕ → Bool
is_last n left m right = nat_lt n left && nat_lt m right

-- what two blocks say of the files that have them, which are the same before: where they differ, so
-- do the files, and where they do not and nothing follows, the files are the same
abbrev pub known_by : List ℕ → List ℕ → Bool → Option Bool
known_by left right is_last =
    if bytes_eq left right then (if is_last then Some true else None) else Some false

-- whether two sources give the same bytes, where both are known
abbrev pub IsAnswer : Option (List ℕ) → Option (List ℕ) → Bool → Type 0
IsAnswer None b same = ⊤
IsAnswer (Some xs) None same = ⊤
IsAnswer (Some xs) (Some ys) same = same ≡ bytes_eq xs ys

-- two sources give the same bytes exactly if what is left of them does
abbrev pub IsSameQuestion : Option (List ℕ) → Option (List ℕ) → Option (List ℕ) → Option (List ℕ)
    → Type 0
IsSameQuestion None b left right = ⊤
IsSameQuestion (Some xs) None left right = ⊤
IsSameQuestion (Some xs) (Some ys) None right = ⊥
IsSameQuestion (Some xs) (Some ys) (Some zs) None = ⊥
IsSameQuestion (Some xs) (Some ys) (Some zs) (Some ws) = bytes_eq xs ys ≡ bytes_eq zs ws

-- the next blocks of two sources give the answer, or leave the question
abbrev pub IsStep : Option Bool → Option (List ℕ) → Option (List ℕ) → Option (List ℕ)
    → Option (List ℕ) → Type 0
IsStep (Some same) a b left right = IsAnswer a b same
IsStep None a b left right = IsSameQuestion a b left right
