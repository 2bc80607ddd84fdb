-- What a file that is changed in place leaves. An answer relates the old bytes to the new ones.
use Rattle.std.specs.Prelude.{◌≡◌, ◌≢◌, ◌⊎◌, ⊤, ℕ, List, Bool, false, Option, None, Some}
use Rattle.exif_files.specs.declared.outcome.Status.{Status}
use Rattle.exif_files.specs.declared.outcome.Status.TheVariants.{Refused}
use Rattle.exif_files.specs.States.{Entry, State, Holds, IsUnchanged}
use Rattle.exif_files.specs.Names.{OthersKept}
use Rattle.exif_files.specs.Statuses.{status_for}
use Rattle.exif_files.specs.Written.{IsLike, IsLeftOver}

-- the file has an answer to the old bytes, and is like the old one
abbrev pub HasAnswer : (List ℕ → List ℕ → Type 0) → List ℕ → Bool → Bool → State → State → Type 0
HasAnswer answer name times calm s t = (old : Entry) × (s.at name ≡ Some old)
    × Holds t name (λ f. answer old.bytes f.bytes × IsLike times calm old f)

-- in each state: the old file or the answer, whole, and the other names what they had
pub record IsWholeChange (answer : List ℕ → List ℕ → Type 0) (name : List ℕ) (backup : Option (List ℕ)) (times : Bool) (calm : Bool) (s t : State) : Type 0 where
  pub file : (t.at name ≡ s.at name) ⊎ HasAnswer answer name times calm s t
  pub others : OthersKept backup name s t

-- The answer. The old file has the other name where it was replaced; a file that is its own answer
-- is left alone, and nothing has the other name.
pub record IsChanged (answer : List ℕ → List ℕ → Type 0) (name : List ℕ) (backup : Option (List ℕ)) (times : Bool) (calm : Bool) (s t : State) : Type 0 where
  pub file : HasAnswer answer name times calm s t
  pub kept_as : ((b : List ℕ) → backup ≡ Some b → (t.at b ≡ s.at name) × (s.at b ≡ None)) ⊎ IsUnchanged s t
  pub others : (n : List ℕ) → n ≢ name → (backup ≡ Some n → ⊥) → t.at n ≡ s.at n

-- nothing is said of a state
abbrev pub AnyState : State → State → Type 0
AnyState s t = ⊤

-- the file has other bytes than it had
abbrev pub HasOtherBytes : List ℕ → State → State → Type 0
HasOtherBytes name s t =
    (old : Entry) × (s.at name ≡ Some old) × Holds t name (λ f. f.bytes ≢ old.bytes)

-- What an error leaves: all as it was; or the answer, where only the name could not be synced; or
-- all as it was but for a file of the program's own, where its removal failed too.
abbrev pub IsNotChanged : (List ℕ → List ℕ → Type 0) → List ℕ → Option (List ℕ) → Bool → Bool → Type 0 → State → State → Type 0
IsNotChanged answer name backup times calm twice s t =
    IsUnchanged s t ⊎ (IsChanged answer name backup times calm s t ⊎ (IsLeftOver name backup s t × twice))

-- what became of a file: it has the answer, and its status says whether something was left undone
-- in it; or it is the old one or the answer, whole
pub record IsOutcome (answer : List ℕ → List ℕ → Type 0) (name : List ℕ) (backup : Option (List ℕ)) (times : Bool) (undone : List ℕ → ℕ) (status : Status) (s t : State) : Type 0 where
  pub done : status ≢ Refused → HasAnswer answer name times false s t
  pub is : status ≢ Refused → (old : Entry) → s.at name ≡ Some old → status ≡ status_for (undone old.bytes)
  pub whole : IsWholeChange answer name backup times false s t
