-- Files that are moved or copied to their new names.
use Rattle.std.specs.Prelude.{◌≡◌, ◌⊎◌, ℕ, Bool, true, false, if◌then◌else◌, List, [], ◌∷◌, ◌++◌, Option, Some, None, Result, Ok, Err, codes}
use Rattle.std.specs.declared.fs.locks.TryLockError.{TryLockError}
use Rattle.std.specs.declared.fs.locks.TryLockError.TheVariants as lock
use Rattle.exif_files.specs.Folders.{folder_of}
use Rattle.exif_files.specs.NewNames.{IsThere}
use Rattle.exif_files.specs.Statuses.{worse}
use Rattle.exif_files.specs.States.{State, Now, Run}
use Rattle.exif_files.specs.Steps.{Moves, Removes}
use Rattle.exif_files.specs.declared.outcome.Status.{Status}
use Rattle.exif_files.specs.declared.outcome.Status.TheVariants.{Incomplete}
use Rattle.exif_rename.specs.Moves.{IsCopiedForGood, IsMovedBy, IsWholeMove}
use Rattle.exif_rename.specs.declared.moving.Attributes.TheVariants.{Kept, Lost}
use Rattle.exif_rename.specs.declared.moving.Moved.{Moved}
use Rattle.exif_rename.specs.declared.moving.Moved.TheVariants.{Renamed, Copied}

-- A folder is synced once, by the first new name in it.
abbrev pub with_name : (List ℕ → Bool) → List ℕ → List (List ℕ) → List (List ℕ)
with_name has_folder name names =
    if has_folder (folder_of name) then names else names ++ (name ∷ [])

-- a loss of power may bring back the old name of a file that was renamed; a copy is on the disk
abbrev pub may_be_lost : Moved → Bool
may_be_lost Renamed = true
may_be_lost (Copied attributes) = false

-- a file that was renamed has its mode, owner and times; a copy may lack some
abbrev pub is_whole : Moved → Bool
is_whole Renamed = true
is_whole (Copied Kept) = true
is_whole (Copied Lost) = false

-- a copy that the disk has; a file that stays is never renamed
abbrev pub IsCopiedBy : List ℕ → List ℕ → Moved → State → State → Type 0
IsCopiedBy from to Renamed s t = ⊥
IsCopiedBy from to (Copied attributes) s t = IsCopiedForGood from to attributes s t

-- a file that had both names, as a move that was cut off leaves it, has lost the old one
pub record IsFinished (from to : List ℕ) (moved : Moved) (old new : List State) : Type 0 where
  pub is : moved ≡ Renamed
  pub begun : Now old (λ s. (s.at from ≡ s.at to) × IsThere to s)
  pub gone : Moves (Removes from) old new

-- how a file got its new name: a move that was begun is finished, or it is moved
abbrev pub IsGivenBy : List ℕ → List ℕ → Moved → Type 0 → List State → List State → Type 0
IsGivenBy from to moved failed old new =
    IsFinished from to moved old new
    ⊎ Run (IsWholeMove from to failed) (IsMovedBy from to moved) old new

-- what is counted beside the files where the disk may lack some new names
abbrev pub IsSettled : Status → Status → Type 0
IsSettled old new = (new ≡ old) ⊎ (new ≡ worse old Incomplete)

-- A lock that another program has is a reason not to move a file. Where the file system has no locks,
-- the call fails otherwise, which is none.
abbrev pub why_locked : Result (Unit {0}) TryLockError → Option (List ℕ)
why_locked (Ok x) = None
why_locked (Err lock.WouldBlock) = Some (codes "another program has it locked")
why_locked (Err (lock.Error cause)) = None
