-- What became of files, one after the other.
use Rattle.std.proofs.Common.{◌≡◌, refl, List, [], ◌∷◌, ◌++◌, Option}
use Rattle.exif_catalog.specs.Totals.{counted_all, counted_if}
use Rattle.exif_catalog.specs.declared.totals.Outcome.{Outcome}
use Rattle.exif_catalog.specs.declared.totals.Totals.{Totals}

-- one file more
pub counted_more : (totals : Totals) (outcomes : List (Option Outcome)) (it : Option Outcome)
    → counted_all totals (outcomes ++ it ∷ []) ≡ counted_if (counted_all totals outcomes) it
counted_more totals [] it = refl
counted_more totals (first ∷ outcomes) it = counted_more (counted_if totals first) outcomes it
