-- Steps, one after the other.
use Rattle.std.proofs.Common.{refl, List, [], ◌∷◌, ◌++◌}
use Rattle.exif_catalog_file.specs.Handing.{Steps}

-- one step more
pub steps_more : {X A : Type 0} (Step : X → A → X → Type 0) (items : List A) (item : A)
    (old mid new : X) → Steps Step old items mid → Step mid item new
    → Steps Step old (items ++ item ∷ []) new
steps_more Step [] item old mid new done step = (new, rw done at step, refl)
steps_more Step (first ∷ items) item old mid new done step =
    (done.0, done.1, steps_more Step items item done.0 mid new done.2 step)
