-- What the errors of a plan say.
use Rattle.std.specs.Prelude.{⊤, ℕ, Bool, true, false, Result, Ok, Err}
use Rattle.exif_rename.specs.declared.plan.PlanError.{PlanError}
use Rattle.exif_rename.specs.declared.plan.PlanError.TheVariants.{Io, Crowded, OutOfMemory}

-- whether a call of the system failed
abbrev pub is_failed : {T : Type 0} → Result T PlanError → Bool
is_failed (Ok x) = false
is_failed (Err (Io e)) = true
is_failed (Err (Crowded index)) = false
is_failed (Err OutOfMemory) = false

-- what holds of the request that gets no candidate, if that is the error
abbrev pub IfCrowded : PlanError → (ℕ → Type 0) → Type 0
IfCrowded (Io e) P = ⊤
IfCrowded (Crowded index) P = P index
IfCrowded OutOfMemory P = ⊤
