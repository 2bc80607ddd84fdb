-- What a file that gets another name leaves.
use Rattle.std.specs.Prelude.{◌≡◌, ◌≢◌, ◌≤◌, ◌⊎◌, ℕ, List, true, None, Some}
use Rattle.exif_files.specs.States.{Entry, State, Holds, Elsewhere, ElsewhereOfTwo, IsUnchanged}
use Rattle.exif_files.specs.Names.{IsFresh, OthersKept}
use Rattle.exif_files.specs.Steps.{count_after}
use Rattle.exif_files.specs.NewNames.{IsRenamed}
use Rattle.exif_files.specs.Written.{IsHeld}
use Rattle.exif_files.specs.declared.failure.WriteError.{WriteError}
use Rattle.exif_files.specs.declared.failure.WriteError.TheVariants.{OutOfMemory, Taken, Crowded}
use Rattle.exif_rename.specs.declared.moving.Attributes.{Attributes}
use Rattle.exif_rename.specs.declared.moving.Attributes.TheVariants.{Kept}
use Rattle.exif_rename.specs.declared.moving.Moved.{Moved}
use Rattle.exif_rename.specs.declared.moving.Moved.TheVariants.{Renamed, Copied}

-- the mode, the owner and the times of another file
pub record IsAlike (f g : Entry) : Type 0 where
  pub mode : g.mode ≡ f.mode
  pub owner : g.owner ≡ f.owner
  pub times : g.times ≡ f.times

-- a name that nothing had has a file with the bytes of another
abbrev pub IsCopy : List ℕ → List ℕ → State → State → Type 0
IsCopy from to s t = (s.at to ≡ None)
    × ((f : Entry) × (s.at from ≡ Some f) × Holds t to (λ g. g.bytes ≡ f.bytes))

-- a name that nothing had has a whole copy; or, where a call failed, a file without bytes
abbrev pub IsCopyOrHeld : List ℕ → List ℕ → Type 0 → State → State → Type 0
IsCopyOrHeld from to failed s t = IsCopy from to s t ⊎ (IsHeld to s t × failed)

-- In each state: the name has what it had, or a whole copy, and every other name what it had. Where a
-- call failed, as where no file can have two names, the name may have a file without bytes.
pub record IsWholeCopy (from to : List ℕ) (failed : Type 0) (s t : State) : Type 0 where
  pub file : (t.at to ≡ s.at to) ⊎ IsCopyOrHeld from to failed s t
  pub others : OthersKept None to s t

-- a copy, and every other name has what it had
pub record IsCopied (from to : List ℕ) (s t : State) : Type 0 where
  pub copy : IsCopy from to s t
  pub others : Elsewhere to s t

-- a copy that the disk has all of, with the attributes of the other file where they were kept
pub record IsCopiedForGood (from to : List ℕ) (attributes : Attributes) (s t : State) : Type 0 where
  pub free : s.at to ≡ None
  pub file : (f : Entry) × (s.at from ≡ Some f)
      × Holds t to (λ g. (g.bytes ≡ f.bytes) × (attributes ≡ Kept → IsAlike f g) × (g.kept ≡ true))
  pub others : Elsewhere to s t
  pub settled : t.settled to ≡ true

-- It gave up by itself only where memory or free names ran out or the name is taken; else a call
-- of the system failed.
abbrev pub IsCaused : WriteError → ℕ → ℕ → Type 0
IsCaused error failures failures' = error ≢ OutOfMemory → error ≢ Taken → error ≢ Crowded
    → count_after true failures ≤ failures'

-- What an error leaves: all as it was, which has a cause; or a copy, where the disk may not have
-- all of it; or what a state between them had, where a removal failed too.
abbrev pub IsNotCopied : List ℕ → List ℕ → Type 0 → Type 0 → Type 0 → State → State → Type 0
IsNotCopied from to cause failed twice s t =
    (IsUnchanged s t × cause) ⊎ (IsCopied from to s t ⊎ (IsWholeCopy from to failed s t × twice))

-- In each state the whole file has one of the two names at least, the new name nothing else, but
-- for a file without bytes where a call failed, and every other name what it had.
pub record IsWholeMove (from to : List ℕ) (failed : Type 0) (s t : State) : Type 0 where
  pub file : (f : Entry) → s.at from ≡ Some f
      → (t.at from ≡ Some f) ⊎ ((t.at from ≡ None) × IsCopy from to s t)
  pub there : (t.at to ≡ s.at to) ⊎ IsCopyOrHeld from to failed s t
  pub others : (n : List ℕ) → n ≢ from → n ≢ to → (IsFresh None s n → ⊥) → t.at n ≡ s.at n

-- a copy of the file, whose own name is gone
pub record IsCopiedAway (from to : List ℕ) (attributes : Attributes) (s t : State) : Type 0 where
  pub free : s.at to ≡ None
  pub file : (f : Entry) × (s.at from ≡ Some f)
      × Holds t to (λ g. (g.bytes ≡ f.bytes) × (attributes ≡ Kept → IsAlike f g) × (g.kept ≡ true))
  pub gone : t.at from ≡ None
  pub others : ElsewhereOfTwo from to s t

-- How the file got the other name: by a rename, which the disk may not have yet; or by a copy, and
-- the disk has that the old name is gone.
abbrev pub IsMovedBy : List ℕ → List ℕ → Moved → State → State → Type 0
IsMovedBy from to Renamed s t = IsRenamed from to s t
IsMovedBy from to (Copied attributes) s t =
    IsCopiedAway from to attributes s t × (t.settled from ≡ true)

-- a copy has the other name, where the disk may not have that the old one is gone
abbrev pub IsMoved : List ℕ → List ℕ → State → State → Type 0
IsMoved from to s t = (attributes : Attributes) × IsCopiedAway from to attributes s t

-- What an error leaves: what one of a copy leaves; or a copy has the other name, where only the
-- disk may not have it.
abbrev pub IsNotMoved : List ℕ → List ℕ → Type 0 → Type 0 → Type 0 → State → State → Type 0
IsNotMoved from to cause failed twice s t =
    IsNotCopied from to cause failed twice s t ⊎ IsMoved from to s t
