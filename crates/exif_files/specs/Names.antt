-- The names that the program gives files of its own.
use Rattle.std.specs.Prelude.{◌≡◌, ◌≢◌, ◌⊎◌, ℕ, List, ◌++◌, Bool, if◌then◌else◌, Option, None, Some, codes}
use Rattle.std.specs.Fmt.{decimal}
use denote.Ref.{Bor}
use Rattle.exif_files.specs.States.{State}

-- a file that is being written
abbrev pub IsHidden : List ℕ → Type 0
IsHidden n = (folder : List ℕ) × (k : ℕ) × (n ≡ folder ++ (codes "/.mexaldor-" ++ decimal k))

-- the name that the old file is kept by
abbrev pub backup_of : List ℕ → List ℕ
backup_of name = name ++ codes ".orig"

abbrev pub backup_if : Bool → List ℕ → Option (List ℕ)
backup_if keeps name = if keeps then Some (backup_of name) else None

-- the name that a reference leads to
abbrev pub name_if : Option (Bor (List ℕ)) → Option (List ℕ)
name_if None = None
name_if (Some name) = Some name.now

-- a name that the program may give, and that nothing had
pub record IsFresh (backup : Option (List ℕ)) (s : State) (n : List ℕ) : Type 0 where
  pub free : s.at n ≡ None
  pub own : IsHidden n ⊎ (backup ≡ Some n)

-- The other names have what they had, but for fresh ones: so each other file is as it was.
abbrev pub OthersKept : Option (List ℕ) → List ℕ → State → State → Type 0
OthersKept backup name s t = (n : List ℕ) → n ≢ name → (IsFresh backup s n → ⊥) → t.at n ≡ s.at n
