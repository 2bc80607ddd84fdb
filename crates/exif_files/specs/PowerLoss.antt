-- What is left after a process is killed, or a machine loses its power.
use Rattle.std.specs.Prelude.{◌≤◌, ◌≡◌, ◌⊎◌, ℕ, List, [], ◌∷◌, ◌++◌, Bool, true, false, Option, None, Some, ⊤}
use Rattle.std.specs.List.{AllByRecursion}
use Rattle.exif_files.specs.States.{Entry, State}
use Rattle.exif_files.specs.Steps.{count_after}
use Rattle.exif_files.specs.Written.{IsWhole, IsWholeNew}

-- what a loss of power leaves of a file: one that the disk has all of as it is, of another anything
pub record Leaves (was left : Option Entry) : Type 0 where
  pub none : was ≡ None → left ≡ None
  pub whole : (f : Entry) → was ≡ Some f → f.kept ≡ true → left ≡ Some f

-- What it may leave under a name: what the name had in the last state, or, where the disk does not
-- have the name yet, in one before it. Where no states are known, anything.
abbrev pub MayLeave : List State → List ℕ → Option Entry → Type 0
MayLeave [] name left = ⊤
MayLeave (s ∷ past) name left = Leaves (s.at name) left ⊎ ((s.settled name ≡ false) × MayLeave past name left)

-- A loss of power at any moment of a replacement leaves the old file or the new bytes, whole. The
-- states since its beginning are those up to that moment, the last first.
abbrev pub LossLaw : Type 0
LossLaw = (name : List ℕ) (backup : Option (List ℕ)) (bytes : List ℕ) (times : Bool) (calm : Bool)
    (s : State) (past since : List State) (old : Entry) (left : Option Entry)
    → s.settled name ≡ true → s.at name ≡ Some old → old.kept ≡ true
    → AllByRecursion (IsWhole name backup bytes times calm s) since
    → MayLeave (since ++ (s ∷ past)) name left
    → (left ≡ Some old) ⊎ ((f : Entry) × (left ≡ Some f) × (f.bytes ≡ bytes))

-- And while a new file is made: nothing, or the whole new file, unless a call failed.
abbrev pub NewLossLaw : Type 0
NewLossLaw = (name bytes : List ℕ) (mode failures failures' : ℕ) (s : State) (past since : List State) (left : Option Entry)
    → s.settled name ≡ true → s.at name ≡ None
    → AllByRecursion (IsWholeNew name bytes mode (count_after true failures ≤ failures') s) since
    → MayLeave (since ++ (s ∷ past)) name left
    → (count_after true failures ≤ failures') ⊎ ((left ≡ None) ⊎ ((f : Entry) × (left ≡ Some f) × (f.bytes ≡ bytes)))
