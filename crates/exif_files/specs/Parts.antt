-- What the steps of a replacement leave, one after the other. The new file has the name beside
-- until it has the other.
use Rattle.std.specs.Prelude.{◌≡◌, ◌≢◌, ◌≤◌, ◌⊎◌, ℕ, List, [], ◌∷◌, ◌++◌, Bool, true, false, Option, None, Some}
use Rattle.exif_files.specs.declared.outcome.Status.{Status}
use Rattle.exif_files.specs.States.{Entry, State, Holds, Elsewhere, Run}
use Rattle.exif_files.specs.Changed.{IsWholeChange, IsOutcome}
use Rattle.exif_files.specs.Steps.{count_after}
use Rattle.exif_files.specs.Written.{IsLike, IsNew, IsMade, IsMadeOrHeld}

-- some calls failed, or none
abbrev pub FailsOrNot : ℕ → ℕ → Type 0
FailsOrNot failures failures' = (failures' ≡ failures) ⊎ (count_after true failures ≤ failures')

-- one call failed, or none
abbrev pub FailsOnceOrNot : ℕ → ℕ → Type 0
FailsOnceOrNot failures failures' = (failures' ≡ failures) ⊎ (failures' ≡ count_after true failures)

-- one call failed, or two
abbrev pub FailsOnceOrTwice : ℕ → ℕ → Type 0
FailsOnceOrTwice failures failures' =
    (failures' ≡ count_after true failures) ⊎ (failures' ≡ count_after true (count_after true failures))

-- the bytes were added at the end of a file, if there is one; its mode stays
pub record IsAppended (name bytes : List ℕ) (s t : State) : Type 0 where
  pub file : (f : Entry) → s.at name ≡ Some f → Holds t name (λ g. (g.bytes ≡ f.bytes ++ bytes) × (g.mode ≡ f.mode))
  pub others : Elsewhere name s t

-- a file may have the owner of another
pub record MayHaveOwner (source name : List ℕ) (calm : Bool) (s t : State) : Type 0 where
  pub file : (f : Entry) → s.at name ≡ Some f → Holds t name (λ g. (g.bytes ≡ f.bytes)
      × (calm ≡ true → (old : Entry) × (s.at source ≡ Some old) × (g.owner ≡ old.owner)))
  pub others : Elsewhere name s t

-- a file has the times of another, if they are to be kept; owner and mode stay
pub record HasTimesIf (times : Bool) (source name : List ℕ) (s t : State) : Type 0 where
  pub file : (f : Entry) → s.at name ≡ Some f → Holds t name (λ g. (g.bytes ≡ f.bytes) × (g.mode ≡ f.mode)
      × (g.owner ≡ f.owner) × (times ≡ true → (old : Entry) × (s.at source ≡ Some old) × (g.times ≡ old.times)))
  pub others : Elsewhere name s t

-- a file is like another, but for its bytes
pub record HasAccess (source name : List ℕ) (times calm : Bool) (s t : State) : Type 0 where
  pub file : (f : Entry) → s.at name ≡ Some f → (old : Entry) × (s.at source ≡ Some old)
      × Holds t name (λ g. (g.bytes ≡ f.bytes) × IsLike times calm old g)
  pub others : Elsewhere name s t

-- a name of an old file that was free
pub record IsFreeFor (backup : Option (List ℕ)) (s : State) (n : List ℕ) : Type 0 where
  pub free : s.at n ≡ None
  pub named : backup ≡ Some n

-- while a file gets another name: that has one of the two files, and the other names what they had
pub record IsMoving (name beside : List ℕ) (backup : Option (List ℕ)) (s t : State) : Type 0 where
  pub file : (t.at name ≡ s.at name) ⊎ (t.at name ≡ s.at beside)
  pub others : (n : List ℕ) → n ≢ name → n ≢ beside → (IsFreeFor backup s n → ⊥) → t.at n ≡ s.at n

-- it has it, and the old one has the name that it is kept by
pub record IsMoved (name beside : List ℕ) (backup : Option (List ℕ)) (s t : State) : Type 0 where
  pub file : t.at name ≡ s.at beside
  pub gone : t.at beside ≡ None
  pub kept_as : (b : List ℕ) → backup ≡ Some b → t.at b ≡ s.at name
  pub was_free : (b : List ℕ) → backup ≡ Some b → s.at b ≡ None
  pub others : (n : List ℕ) → n ≢ name → n ≢ beside → (backup ≡ Some n → ⊥) → t.at n ≡ s.at n

-- all as it was, or but for the name of the old file, where its removal failed too
abbrev pub IsNotMoved : Option (List ℕ) → Type 0 → State → State → Type 0
IsNotMoved backup twice s t =
    ((n : List ℕ) → t.at n ≡ s.at n) ⊎ (((n : List ℕ) → (IsFreeFor backup s n → ⊥) → t.at n ≡ s.at n) × twice)

-- while the new file is filled and gets its name
pub record IsPutting (name beside : List ℕ) (backup : Option (List ℕ)) (bytes : List ℕ) (times calm : Bool) (s t : State) : Type 0 where
  pub file : (t.at name ≡ s.at name) ⊎ IsNew name bytes times calm s t
  pub others : (n : List ℕ) → n ≢ name → n ≢ beside → (IsFreeFor backup s n → ⊥) → t.at n ≡ s.at n

pub record IsPut (name beside : List ℕ) (backup : Option (List ℕ)) (bytes : List ℕ) (times calm : Bool) (s t : State) : Type 0 where
  pub file : IsNew name bytes times calm s t
  pub gone : t.at beside ≡ None
  pub kept_as : (b : List ℕ) → backup ≡ Some b → t.at b ≡ s.at name
  pub was_free : (b : List ℕ) → backup ≡ Some b → s.at b ≡ None
  pub others : (n : List ℕ) → n ≢ name → n ≢ beside → (backup ≡ Some n → ⊥) → t.at n ≡ s.at n

abbrev pub IsNotPut : List ℕ → Option (List ℕ) → Type 0 → State → State → Type 0
IsNotPut beside backup twice s t =
    Elsewhere beside s t ⊎ (((n : List ℕ) → n ≢ beside → (IsFreeFor backup s n → ⊥) → t.at n ≡ s.at n) × twice)

-- the new file has its name, and its own name is gone
pub record IsPutNew (name beside bytes : List ℕ) (mode : ℕ) (s t : State) : Type 0 where
  pub file : IsMade name bytes mode s t
  pub gone : t.at beside ≡ None
  pub others : (n : List ℕ) → n ≢ name → n ≢ beside → t.at n ≡ s.at n

pub record IsPuttingNew (name beside bytes : List ℕ) (mode : ℕ) (failed : Type 0) (s t : State) : Type 0 where
  pub file : (t.at name ≡ s.at name) ⊎ IsMadeOrHeld name bytes mode failed s t
  pub others : (n : List ℕ) → n ≢ name → n ≢ beside → t.at n ≡ s.at n

-- the new file does not have its name, or a removal failed too
abbrev pub IsNotPutNew : List ℕ → List ℕ → List ℕ → ℕ → Type 0 → Type 0 → State → State → Type 0
IsNotPutNew name beside bytes mode failed twice s t =
    Elsewhere beside s t ⊎ (IsPuttingNew name beside bytes mode failed s t × twice)

-- a name was given before, and nothing was done; or its file was changed, if it could be
abbrev pub Takes : (List ℕ → List ℕ → Type 0) → List ℕ → Option (List ℕ) → Bool → (List ℕ → ℕ) → List State → List State → Bool → List (Option Status) → List (Option Status) → Type 0
Takes answer name backup times undone old new among results results' =
    ((among ≡ true) × (new ≡ old) × (results' ≡ results ++ None ∷ []))
    ⊎ ((among ≡ false) × ((status : Status) × (results' ≡ results ++ Some status ∷ [])
    × Run (IsWholeChange answer name backup times false) (IsOutcome answer name backup times undone status) old new))
