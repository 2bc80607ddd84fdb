-- What a file system holds.
use Rattle.std.specs.Prelude.{◌≡◌, ◌≢◌, ℕ, List, [], ◌∷◌, ◌++◌, Bool, Option, Some, ⊤}
use Rattle.std.specs.List.{AllByRecursion}

-- a file: its bytes, who may use it, its owner, its times, and whether the disk has all of it
pub record Entry : Type 0 where
  pub bytes : List ℕ
  pub mode : ℕ
  pub owner : ℕ
  pub times : ℕ
  pub kept : Bool

-- the file of each name, and whether the disk has that name as it is here
pub record State : Type 0 where
  pub at : List ℕ → Option Entry
  pub settled : List ℕ → Bool

-- a file has the name, and it is such
abbrev pub Holds : State → List ℕ → (Entry → Type 0) → Type 0
Holds s name P = (f : Entry) × (s.at name ≡ Some f) × P f

-- the other names have what they had
abbrev pub Elsewhere : List ℕ → State → State → Type 0
Elsewhere name s t = (n : List ℕ) → n ≢ name → t.at n ≡ s.at n

-- the other names than two
abbrev pub ElsewhereOfTwo : List ℕ → List ℕ → State → State → Type 0
ElsewhereOfTwo a b s t = (n : List ℕ) → n ≢ a → n ≢ b → t.at n ≡ s.at n

-- all names
abbrev pub IsUnchanged : State → State → Type 0
IsUnchanged s t = (n : List ℕ) → t.at n ≡ s.at n

-- the last state, where states are known
abbrev pub Now : List State → (State → Type 0) → Type 0
Now [] P = ⊤
Now (s ∷ past) P = P s

-- the states that were come last, first those that came since: in each of them P, in the last of
-- them Q
pub record Ran (P Q : State → State → Type 0) (s : State) (past new : List State) : Type 0 where
  pub now : State
  pub earlier : List State
  pub since : List State
  pub is : new ≡ now ∷ earlier
  pub begun : now ∷ earlier ≡ since ++ (s ∷ past)
  pub each : AllByRecursion (P s) since
  pub last : Q s now

-- A run from the state that was: P says what each state since is to it, Q what the last is. P is
-- what holds if the process is killed, Q what holds at the return. Where no states are known, none
-- is known at the return.
pub record Run (P Q : State → State → Type 0) (old new : List State) : Type 0 where
  pub told : (s : State) (past : List State) → old ≡ s ∷ past → Ran P Q s past new
  pub none : old ≡ [] → new ≡ []
