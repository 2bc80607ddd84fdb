-- What a file system in memory has kept.
use Rattle.std.specs.Prelude.{◌≡◌, ℕ, zero, suc, List, [], ◌∷◌, true, if◌then◌else◌, Option, None, Some, length, take, Bool, Result, IfOk, OnOk, OnErr}
use Rattle.std.specs.Str.{bytes_eq}
use Rattle.exif_test_support.specs.declared.memory.Stored.{Stored}
use Rattle.exif_test_support.specs.declared.memory.Put.{Put}
use Rattle.exif_test_support.specs.declared.memory.Step.{Step}
use Rattle.exif_files.specs.States.{Entry, State, Elsewhere, ElsewhereOfTwo}
use Rattle.exif_files.specs.Steps.{Moves, MovesIfFree}

-- a file, all of which the disk has
abbrev pub entry : Stored → Entry
entry file = record { bytes = file.bytes.items; mode = file.mode; owner = file.owner; times = file.times; kept = true }

abbrev pub entry_if : Option Stored → Option Entry
entry_if None = None
entry_if (Some file) = Some (entry file)

-- what puts make of what a name had
abbrev pub looked : Option Entry → List Put → List ℕ → Option Entry
looked found [] name = found
looked found (put ∷ puts) name = looked (if bytes_eq name put.name.items then entry_if put.file else found) puts name

-- and what steps make of it
abbrev pub looked_all : Option Entry → List Step → List ℕ → Option Entry
looked_all found [] name = found
looked_all found (step ∷ steps) name = looked_all (looked found step.puts.items name) steps name

-- the state after the steps
abbrev pub state_of : List Step → State
state_of steps = record { at = λ name. looked_all None steps name; settled = λ _. true }

-- the states after each of the first k steps, the last first
abbrev pub states_after : List Step → ℕ → List State
states_after steps zero = state_of [] ∷ []
states_after steps (suc k) = state_of (take (suc k) steps) ∷ states_after steps k

-- all its states
abbrev pub states_of : List Step → List State
states_of steps = states_after steps (length steps)

-- the name has this now
pub record Puts (name : List ℕ) (file : Option Entry) (s t : State) : Type 0 where
  pub here : t.at name ≡ file
  pub others : Elsewhere name s t

-- the one name has a file now, and the other nothing
pub record PutsTwo (gone name : List ℕ) (file : Entry) (s t : State) : Type 0 where
  pub here : t.at name ≡ Some file
  pub gone_then : t.at gone ≡ None
  pub others : ElsewhereOfTwo gone name s t

-- a call did its step, or kept what was; its failure is not counted yet
pub record Tries {T E : Type 0} (step : State → State → Type 0) (old new : List Step) (failures failures' : ℕ) (result : Result T E) : Type 0 where
  pub done : OnOk result (Moves step (states_of old) (states_of new))
  pub failed : OnErr result (new ≡ old)
  pub count : failures' ≡ failures

pub record TriesIfFree {E : Type 0} (name : List ℕ) (step : State → State → Type 0) (old new : List Step) (failures failures' : ℕ) (result : Result Bool E) : Type 0 where
  pub done : IfOk result (MovesIfFree name step (states_of old) (states_of new))
  pub failed : OnErr result (new ≡ old)
  pub count : failures' ≡ failures
