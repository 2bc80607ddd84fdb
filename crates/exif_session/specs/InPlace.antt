-- The files that are changed in place.
use Rattle.std.specs.Prelude.{◌≡◌, ◌⊎◌, ℕ, ◌+◌, List, [], ◌∷◌, ◌++◌, Option, None, Some, length, slice_get}
use Rattle.std.specs.Global.{Global}
use Rattle.std.specs.declared.string.String.{String}
use Rattle.exif_decisions.specs.Tallies.{counted}
use Rattle.exif_decisions.specs.declared.outcome.Outcome.TheVariants.{Refused}
use Rattle.exif_inputs.specs.Pending.{with_counts}
use Rattle.exif_session.specs.declared.in_place.Plan as plan
use Rattle.exif_inputs.specs.declared.pending.Pending as pending

-- a file that is added to a plan, with the place where its links end
pub record IsPlanned (path : String Global) (old new : plan.Plan) (before after : pending.Pending) : Type 0 where
  pub paths : new.paths.items ≡ old.paths.items ++ path ∷ []
  pub keys : length new.keys.items ≡ length old.keys.items + 1
  pub pending : after ≡ before

-- one that can't be followed, or is no regular file, is counted as refused
pub record IsRefused (old new : plan.Plan) (before after : pending.Pending) : Type 0 where
  pub plan : new ≡ old
  pub counted : after ≡ with_counts (counted Refused before.counts) before

abbrev pub IsAdded : String Global → plan.Plan → plan.Plan → pending.Pending → pending.Pending → Type 0
IsAdded path old new before after =
    IsPlanned path old new before after ⊎ IsRefused old new before after

abbrev pub both : Option (List ℕ) → Option (List ℕ) → List ℕ × List ℕ
both None key = ([], [])
both (Some path) None = ([], [])
both (Some path) (Some key) = (path, key)

-- the path and the key of a number
abbrev pub named_at : List (List ℕ) → List (List ℕ) → ℕ → List ℕ × List ℕ
named_at paths keys index = both (slice_get paths index) (slice_get keys index)
