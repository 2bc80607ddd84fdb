-- What a file that is written whole or not at all leaves.
use Rattle.std.specs.Prelude.{◌≡◌, ◌≢◌, ◌≤◌, ◌-◌, ◌^◌, ◌⊎◌, ℕ, List, [], Bool, true, Option, None, Some, ◌==◌, ◌&&◌, ltb}
use Rattle.exif_files.specs.States.{Entry, State, Holds, Elsewhere, IsUnchanged}
use Rattle.exif_files.specs.Steps.{count_after}
use Rattle.exif_files.specs.Names.{IsFresh, OthersKept}
use Rattle.exif_files.specs.declared.failure.WriteError.{WriteError}
use Rattle.exif_files.specs.declared.failure.WriteError.TheVariants.{Taken}

-- no call failed
abbrev pub none_failed : ℕ → ℕ → Bool
none_failed failures failures' = (failures' == failures) && ltb failures (2 ^ 64 - 1)

-- two calls failed
abbrev pub FailedTwice : ℕ → ℕ → Type 0
FailedTwice failures failures' = count_after true (count_after true failures) ≤ failures'

-- the removal of a file failed, and before it, if no name was taken, another call
pub record FailedToRemove (error : WriteError) (failures failures' : ℕ) : Type 0 where
  pub once : count_after true failures ≤ failures'
  pub twice : error ≢ Taken → FailedTwice failures failures'

-- what the new file has of the old one: its mode, its times if they are to be kept, and its owner
-- where no call failed
pub record IsLike (times : Bool) (calm : Bool) (old f : Entry) : Type 0 where
  pub same_mode : f.mode ≡ old.mode
  pub same_times : times ≡ true → f.times ≡ old.times
  pub same_owner : calm ≡ true → f.owner ≡ old.owner

-- the file of the name has these bytes and is like the old one, and the disk has all of it
abbrev pub IsNew : List ℕ → List ℕ → Bool → Bool → State → State → Type 0
IsNew name bytes times calm s t = (old : Entry) × (s.at name ≡ Some old)
    × Holds t name (λ f. (f.bytes ≡ bytes) × IsLike times calm old f × (f.kept ≡ true))

-- In each state: the old file or the new one, whole, and the other names what they had.
pub record IsWhole (name : List ℕ) (backup : Option (List ℕ)) (bytes : List ℕ) (times : Bool) (calm : Bool) (s t : State) : Type 0 where
  pub file : (t.at name ≡ s.at name) ⊎ IsNew name bytes times calm s t
  pub others : OthersKept backup name s t

-- the new file, the old one by the name that it is kept by, which was free, and the other names
-- what they had
pub record IsReplaced (name : List ℕ) (backup : Option (List ℕ)) (bytes : List ℕ) (times : Bool) (calm : Bool) (s t : State) : Type 0 where
  pub file : IsNew name bytes times calm s t
  pub kept_as : (b : List ℕ) → backup ≡ Some b → t.at b ≡ s.at name
  pub was_free : (b : List ℕ) → backup ≡ Some b → s.at b ≡ None
  pub others : (n : List ℕ) → n ≢ name → (backup ≡ Some n → ⊥) → t.at n ≡ s.at n

-- that, and the disk has the name
pub record IsReplacedForGood (name : List ℕ) (backup : Option (List ℕ)) (bytes : List ℕ) (times : Bool) (calm : Bool) (s t : State) : Type 0 where
  pub replaced : IsReplaced name backup bytes times calm s t
  pub settled : t.settled name ≡ true

-- all as it was, but for names that were free and that the program gives
pub record IsLeftOver (name : List ℕ) (backup : Option (List ℕ)) (s t : State) : Type 0 where
  pub same : t.at name ≡ s.at name
  pub others : (n : List ℕ) → (IsFresh backup s n → ⊥) → t.at n ≡ s.at n

-- What an error leaves: all as it was; or the new file, where only the name could not be synced; or
-- all as it was but for a file of the program's own, where its removal failed too.
abbrev pub IsGivenUp : List ℕ → Option (List ℕ) → List ℕ → Bool → Bool → Type 0 → State → State → Type 0
IsGivenUp name backup bytes times calm twice s t =
    IsUnchanged s t ⊎ (IsReplaced name backup bytes times calm s t ⊎ (IsLeftOver name backup s t × twice))

-- the name of an old file is taken
abbrev pub IsTakenIf : Option (List ℕ) → State → Type 0
IsTakenIf backup s = (b : List ℕ) → backup ≡ Some b → s.at b ≢ None

-- a new file has the name, which nothing had, and the disk has all of it
abbrev pub IsMade : List ℕ → List ℕ → ℕ → State → State → Type 0
IsMade name bytes mode s t = (s.at name ≡ None)
    × Holds t name (λ f. (f.bytes ≡ bytes) × (f.mode ≡ mode) × (f.kept ≡ true))

-- A file without bytes has a name, which nothing had. It holds the name until the new file replaces
-- it.
abbrev pub IsHeld : List ℕ → State → State → Type 0
IsHeld name s t = (s.at name ≡ None) × Holds t name (λ f. f.bytes ≡ [])

-- the whole new file has the name; or, where a call failed, a file without bytes
abbrev pub IsMadeOrHeld : List ℕ → List ℕ → ℕ → Type 0 → State → State → Type 0
IsMadeOrHeld name bytes mode failed s t = IsMade name bytes mode s t ⊎ (IsHeld name s t × failed)

-- In each state: the name has what it had, or the whole new file; or, where a call failed, a file
-- without bytes, as where no file can have two names.
pub record IsWholeNew (name bytes : List ℕ) (mode : ℕ) (failed : Type 0) (s t : State) : Type 0 where
  pub file : (t.at name ≡ s.at name) ⊎ IsMadeOrHeld name bytes mode failed s t
  pub others : OthersKept None name s t

-- the new file, and the other names what they had
pub record IsCreated (name bytes : List ℕ) (mode : ℕ) (s t : State) : Type 0 where
  pub file : IsMade name bytes mode s t
  pub others : Elsewhere name s t

pub record IsCreatedForGood (name bytes : List ℕ) (mode : ℕ) (s t : State) : Type 0 where
  pub created : IsCreated name bytes mode s t
  pub settled : t.settled name ≡ true

-- What an error leaves: all as it was; or the new file, where only the name could not be synced; or
-- what a state between them had, where a removal failed too.
abbrev pub IsNotCreated : List ℕ → List ℕ → ℕ → Type 0 → Type 0 → State → State → Type 0
IsNotCreated name bytes mode failed twice s t =
    IsUnchanged s t ⊎ (IsCreated name bytes mode s t ⊎ (IsWholeNew name bytes mode failed s t × twice))
