-- What the steps of a copy leave, one after the other.
use Rattle.std.specs.Prelude.{◌≡◌, ◌≢◌, ◌≤◌, ℕ, List, Bool, true, Some}
use Rattle.exif_files.specs.States.{Entry, State, Holds, Elsewhere}
use Rattle.exif_files.specs.Steps.{count_after}
use Rattle.exif_rename.specs.Moves.{IsAlike}
use Rattle.exif_rename.specs.declared.moving.Attributes.{Attributes}
use Rattle.exif_rename.specs.declared.moving.Attributes.TheVariants.{Kept}

-- where a call failed before, one did after it
abbrev pub FailuresStay : ℕ → ℕ → Type 0
FailuresStay failures failures' =
    (n : ℕ) → count_after true n ≤ failures → count_after true n ≤ failures'

-- a file keeps its bytes, and the other names what they had
pub record KeepsBytes (name : List ℕ) (s t : State) : Type 0 where
  pub file : (g : Entry) → s.at name ≡ Some g → Holds t name (λ h. h.bytes ≡ g.bytes)
  pub others : Elsewhere name s t

-- a file gets something that another has, if that succeeds
pub record MayCopy (Has : Entry → Entry → Entry → Type 0) (from to : List ℕ) (done : Bool) (s t : State) : Type 0 where
  pub file : (g : Entry) → s.at to ≡ Some g → Holds t to (λ h. (h.bytes ≡ g.bytes)
      × (done ≡ true → (f : Entry) × (s.at from ≡ Some f) × Has g f h))
  pub others : Elsewhere to s t

-- a file has the attributes of another where they were kept, and its bytes
pub record MayBeAlike (from to : List ℕ) (attributes : Attributes) (s t : State) : Type 0 where
  pub file : from ≢ to → (g : Entry) → s.at to ≡ Some g → Holds t to (λ h. (h.bytes ≡ g.bytes)
      × (attributes ≡ Kept → (f : Entry) × (s.at from ≡ Some f) × IsAlike f h))
  pub others : Elsewhere to s t
