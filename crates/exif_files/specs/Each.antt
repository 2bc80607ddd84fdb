-- What a run over many files leaves.
use Rattle.std.specs.Prelude.{◌≡◌, ◌≢◌, ◌⊎◌, ℕ, List, [], ◌∷◌, ◌||◌, Bool, true, false, Option, None, Some, length, ⊤}
use Rattle.std.specs.Str.{bytes_eq}
use Rattle.exif_files.specs.declared.outcome.Status.{Status}
use Rattle.exif_files.specs.declared.outcome.Status.TheVariants.{Success, Incomplete, Refused}
use Rattle.exif_files.specs.States.{Entry, State}
use Rattle.exif_files.specs.Names.{IsHidden, backup_of}
use Rattle.exif_files.specs.Statuses.{status_for}

-- whether a name is among others
abbrev pub is_among : List ℕ → List (List ℕ) → Bool
is_among name [] = false
is_among name (other ∷ rest) = bytes_eq other name || is_among name rest

abbrev pub is_repeated : Option Status → Bool
is_repeated None = true
is_repeated (Some status) = false

-- a result is none where the name is among those that were given before, the last first
abbrev pub OnceAfter : List (List ℕ) → List (List ℕ) → List (Option Status) → Type 0
OnceAfter before names [] = ⊤
OnceAfter before [] (result ∷ results) = ⊤
OnceAfter before (name ∷ names) (result ∷ results) = (is_repeated result ≡ is_among name before) × OnceAfter (name ∷ before) names results

-- each name has its result, which is none where the name was given before
pub record AreOnce (names : List (List ℕ)) (results : List (Option Status)) : Type 0 where
  pub each : length results ≡ length names
  pub once : OnceAfter [] names results

-- a file was changed
abbrev pub IsDone : Option Status → Type 0
IsDone None = ⊥
IsDone (Some Success) = ⊤
IsDone (Some Incomplete) = ⊤
IsDone (Some Refused) = ⊥

-- what a file is after its change: an answer to its bytes, the mode and maybe the times that it had
pub record IsAnswer (answer : List ℕ → List ℕ → Type 0) (times : Bool) (old f : Entry) : Type 0 where
  pub answered : answer old.bytes f.bytes
  pub same_mode : f.mode ≡ old.mode
  pub same_times : times ≡ true → f.times ≡ old.times

abbrev pub IsAnswered : (List ℕ → List ℕ → Type 0) → Bool → Entry → Option Entry → Type 0
IsAnswered answer times old found = (f : Entry) × (found ≡ Some f) × IsAnswer answer times old f

-- In every state of a run each file is the old one or its answer, whole, and nothing else is there
-- but what the program names itself.
pub record IsEachWhole (answer : List ℕ → List ℕ → Type 0) (backup times : Bool) (s t : State) : Type 0 where
  pub files : (n : List ℕ) (old : Entry) → s.at n ≡ Some old → (t.at n ≡ Some old) ⊎ IsAnswered answer times old (t.at n)
  pub nothing_more : (n : List ℕ) → s.at n ≡ None → (IsHidden n → ⊥)
      → (backup ≡ true → (m : List ℕ) → n ≢ backup_of m) → t.at n ≡ None

-- a file whose change succeeded has its answer, and its status says whether something was left
-- undone in it
abbrev pub AllAnswered : (List ℕ → List ℕ → Type 0) → Bool → (List ℕ → ℕ) → State → State → List (List ℕ) → List (Option Status) → Type 0
AllAnswered answer times undone s t names [] = ⊤
AllAnswered answer times undone s t [] (result ∷ results) = ⊤
AllAnswered answer times undone s t (name ∷ names) (result ∷ results) =
    (IsDone result → (old : Entry) → s.at name ≡ Some old
    → IsAnswered answer times old (t.at name) × (result ≡ Some (status_for (undone old.bytes))))
    × AllAnswered answer times undone s t names results

-- After a run: a file whose change succeeded has its answer, and a file that has none of the names
-- is as it was.
pub record IsEachDone (answer : List ℕ → List ℕ → Type 0) (times : Bool) (undone : List ℕ → ℕ) (names : List (List ℕ)) (results : List (Option Status)) (s t : State) : Type 0 where
  pub done : AllAnswered answer times undone s t names results
  pub left : (n : List ℕ) (old : Entry) → s.at n ≡ Some old → is_among n names ≡ false → t.at n ≡ Some old
