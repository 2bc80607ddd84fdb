-- What is written of a temporary file that was found.
use Rattle.std.specs.Prelude.{ℕ, Bool, true, false, List, codes, Option, Some, None}
use Rattle.exif_decisions.specs.declared.temporary.Fate.{Fate}
use Rattle.exif_decisions.specs.declared.temporary.Fate.TheVariants.{Left, Removed, InUse}

-- a run that changes files tries to remove it, and does unless another run writes it
abbrev pub fate_for : Option Bool → Fate
fate_for None = Left
fate_for (Some true) = Removed
fate_for (Some false) = InUse

abbrev pub fate_text : Fate → List ℕ
fate_text Left = codes "a temporary file; a run that changes files removes it"
fate_text Removed = codes "a temporary file of an interrupted run; it was removed"
fate_text InUse = codes "a temporary file of another run; it stays"
