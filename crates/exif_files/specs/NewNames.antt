-- What a file that gets a name that nothing has leaves.
use Rattle.std.specs.Prelude.{◌≡◌, ◌≢◌, ◌⊎◌, ℕ, List, [], None}
use Rattle.exif_files.specs.States.{State, Holds, Elsewhere, ElsewhereOfTwo, IsUnchanged}

-- something has a name
abbrev pub IsThere : List ℕ → State → Type 0
IsThere name s = s.at name ≢ None

-- nothing has a name
abbrev pub IsGone : List ℕ → State → Type 0
IsGone name s = s.at name ≡ None

-- the file has the other name, which nothing had, and its own is gone
pub record IsRenamed (from to : List ℕ) (s t : State) : Type 0 where
  pub free : s.at to ≡ None
  pub file : t.at to ≡ s.at from
  pub gone : t.at from ≡ None
  pub others : ElsewhereOfTwo from to s t

-- The other name, which nothing had, has the file too; or, where a call failed, a file without
-- bytes. Every other name has what it had, the file's own too.
pub record IsNamedTwice (from to : List ℕ) (failed : Type 0) (s t : State) : Type 0 where
  pub free : s.at to ≡ None
  pub file : (t.at to ≡ s.at from) ⊎ (Holds t to (λ f. f.bytes ≡ []) × failed)
  pub others : Elsewhere to s t

-- In each state: all as it was, or the other name besides the file's own, or instead of it. So the
-- file is whole under one of the two names at least, and what had the other name still has it.
abbrev pub IsRenaming : List ℕ → List ℕ → Type 0 → State → State → Type 0
IsRenaming from to failed s t =
    IsUnchanged s t ⊎ (IsNamedTwice from to failed s t ⊎ IsRenamed from to s t)

-- What an error leaves: all as it was; or the other name too, where its removal failed.
abbrev pub IsNotRenamed : List ℕ → List ℕ → Type 0 → Type 0 → State → State → Type 0
IsNotRenamed from to failed twice s t =
    IsUnchanged s t ⊎ (IsNamedTwice from to failed s t × twice)
