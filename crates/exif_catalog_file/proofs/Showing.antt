-- Pictures that are shown one after the other.
use Rattle.std.proofs.Common.{◌+◌, ℕ, List, [], ◌∷◌, ◌++◌, Option, arith}
use Rattle.std.proofs.lemmas.List.{length-append}
use Rattle.exif_catalog_file.specs.Shown.{ShowsEach}
use Rattle.exif_catalog_file.proofs.Handing.{steps_more}

-- one picture more
pub shown_more : {X : Type 0} (Visits : X → List (Option (List ℕ)) → X → Type 0) (old mid new : X) (count : ℕ)
    (row : List (Option (List ℕ))) → ShowsEach Visits old count mid → Visits mid row new → ShowsEach Visits old (count + 1) new
shown_more Visits old mid new count row shown visits = (
  shown.0 ++ row ∷ [],
  omega (arith, shown.1, length-append shown.0 (row ∷ [])),
  steps_more Visits shown.0 row old mid new shown.2 visits,
)
