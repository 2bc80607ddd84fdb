-- What is read of a file is behind what was read before.
use Rattle.std.proofs.Common.{ℕ, List, ◌++◌, Option, None, Some, ap, sym, ◌∙◌, append_assoc}
use Rattle.exif_base.specs.Told.{IsFetchedOnto}
use Rattle.exif_containers.specs.HeifSteps.{GoesOn}

-- a list that was fetched onto, with what is left, is the old list with what was left before
pub goes_on : (a b : Option (List ℕ)) (old new : List ℕ) (n : ℕ) → IsFetchedOnto a b old new n → GoesOn a b old new
goes_on None b old new n h = tt
goes_on (Some xs) None old new n h = absurd h.1
goes_on (Some xs) (Some ys) old new n h = ap (λ t. t ++ ys) h.3 ∙ append_assoc old h.0 ys ∙ ap (λ t. old ++ t) (sym h.1)
