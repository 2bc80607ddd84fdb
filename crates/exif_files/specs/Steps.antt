-- What each call of a file system does.
use Rattle.std.specs.Prelude.{◌≡◌, ◌≢◌, ◌⊎◌, ℕ, ◌+◌, ◌-◌, ◌^◌, min, List, [], ◌∷◌, ◌++◌, Bool, true, false, if◌then◌else◌, None, Some, Result, IfOk, OnOk, OnErr, is_err}
use Rattle.exif_files.specs.Names.{IsHidden}
use Rattle.exif_files.specs.States.{Entry, State, Holds, Elsewhere, ElsewhereOfTwo, Now}

-- a new file, with no bytes yet, under a name that nothing had
pub record Creates (name : List ℕ) (mode : ℕ) (s t : State) : Type 0 where
  pub free : s.at name ≡ None
  pub file : Holds t name (λ f. (f.bytes ≡ []) × (f.mode ≡ mode))
  pub others : Elsewhere name s t

-- more bytes at the end of a file
pub record Appends (name front : List ℕ) (s t : State) : Type 0 where
  pub file : (f : Entry) × (s.at name ≡ Some f) × Holds t name (λ g. (g.bytes ≡ f.bytes ++ front) × (g.mode ≡ f.mode))
  pub others : Elsewhere name s t

-- a file gets something that another has, and keeps its bytes
pub record Copies (Has : Entry → Entry → Entry → Type 0) (source name : List ℕ) (s t : State) : Type 0 where
  pub file : (f : Entry) × (s.at name ≡ Some f) × (old : Entry) × (s.at source ≡ Some old)
      × Holds t name (λ g. (g.bytes ≡ f.bytes) × Has f old g)
  pub others : Elsewhere name s t

-- the owner
abbrev pub HasOwner : Entry → Entry → Entry → Type 0
HasOwner f old g = g.owner ≡ old.owner

-- the mode; the owner stays
abbrev pub HasMode : Entry → Entry → Entry → Type 0
HasMode f old g = (g.mode ≡ old.mode) × (g.owner ≡ f.owner)

-- the times; owner and mode stay
abbrev pub HasTimes : Entry → Entry → Entry → Type 0
HasTimes f old g = (g.times ≡ old.times) × (g.mode ≡ f.mode) × (g.owner ≡ f.owner)

-- the disk has all of the file, which stays as it is
pub record IsKept (f g : Entry) : Type 0 where
  pub bytes : g.bytes ≡ f.bytes
  pub mode : g.mode ≡ f.mode
  pub owner : g.owner ≡ f.owner
  pub times : g.times ≡ f.times
  pub kept : g.kept ≡ true

pub record Syncs (name : List ℕ) (s t : State) : Type 0 where
  pub file : (f : Entry) × (s.at name ≡ Some f) × Holds t name (IsKept f)
  pub others : Elsewhere name s t

-- the file has one more name, that nothing had
pub record Links (source name : List ℕ) (s t : State) : Type 0 where
  pub free : s.at name ≡ None
  pub file : t.at name ≡ s.at source
  pub others : Elsewhere name s t

-- the file has another name, in one step, whatever had it
pub record Renames (source name : List ℕ) (s t : State) : Type 0 where
  pub file : t.at name ≡ s.at source
  pub gone : t.at source ≡ None
  pub others : ElsewhereOfTwo source name s t

-- nothing has the name any more
pub record Removes (name : List ℕ) (s t : State) : Type 0 where
  pub gone : t.at name ≡ None
  pub others : Elsewhere name s t

-- the disk has the name
pub record Settles (name : List ℕ) (s t : State) : Type 0 where
  pub same : (n : List ℕ) → t.at n ≡ s.at n
  pub settled : t.settled name ≡ true

-- one state more, the last first; where no states are known, none is known then
abbrev pub Moves : (State → State → Type 0) → List State → List State → Type 0
Moves step [] new = new ≡ []
Moves step (s ∷ past) new = (t : State) × step s t × (new ≡ t ∷ s ∷ past)

-- the count after a call: one more where it failed, up to 2^64 - 1
abbrev pub count_after : Bool → ℕ → ℕ
count_after failed n = if failed then min (n + 1) (2 ^ 64 - 1) else n

-- a call did its step, or failed and left all as it was; each failure is counted
pub record Does {T E : Type 0} (step : State → State → Type 0) (old new : List State) (failures failures' : ℕ) (result : Result T E) : Type 0 where
  pub done : OnOk result (Moves step old new)
  pub failed : OnErr result (new ≡ old)
  pub count : failures' ≡ count_after (is_err result) failures

-- where the name is free, a call did its step; where it is taken, nothing
abbrev pub MovesIfFree : List ℕ → (State → State → Type 0) → List State → List State → Bool → Type 0
MovesIfFree name step old new true = Moves step old new
MovesIfFree name step old new false = (new ≡ old) × Now old (λ s. s.at name ≢ None)

pub record DoesIfFree {E : Type 0} (name : List ℕ) (step : State → State → Type 0) (old new : List State) (failures failures' : ℕ) (result : Result Bool E) : Type 0 where
  pub done : IfOk result (MovesIfFree name step old new)
  pub failed : OnErr result (new ≡ old)
  pub count : failures' ≡ count_after (is_err result) failures

-- A run whose first call was such a step, if there was a call that changed anything.
abbrev pub BeginsWith : (State → State → Type 0) → List State → List State → Type 0
BeginsWith step old new = (s : State) (past : List State) → old ≡ s ∷ past
    → (new ≡ old) ⊎ ((t : State) × (since : List State) × step s t × (new ≡ since ++ (t ∷ s ∷ past)))

-- a new file under a hidden name, which its owner alone may use: 384 is 0o600
abbrev pub CreatesPrivate : State → State → Type 0
CreatesPrivate s t = (n : List ℕ) × IsHidden n × Creates n 384 s t
