use Rattle.std.proofs.Common.{true, ◌≤◌, ◌≡◌, ℕ, List, [], ◌∷◌, Option, Some, None, ◌∙◌, ◌⊎◌, inl, inr}
use Rattle.exif_files.specs.States.{Entry, State}
use Rattle.exif_files.specs.Steps.{count_after}
use Rattle.exif_files.specs.Written.{IsMadeOrHeld}
use Rattle.exif_files.specs.PowerLoss.{Leaves, NewLossLaw}
use Rattle.exif_files.proofs.power.new_loss_law.Goals as goal

last : (name bytes : List ℕ) (mode : ℕ) (failed : Type 0) (s t : State) (left : Option Entry) → s.at name ≡ None → (t.at name ≡ s.at name) ⊎ IsMadeOrHeld name bytes mode failed s t → Leaves (t.at name) left
    → failed ⊎ ((left ≡ None) ⊎ ((f : Entry) × (left ≡ Some f) × (f.bytes ≡ bytes)))
last name bytes mode failed s t left is (inl same) leaves = inr (inl (leaves.none (same ∙ is)))
last name bytes mode failed s t left is (inr (inl new)) leaves = let f = new.1 in inr (inr (f.0, leaves.whole f.0 f.1 f.2.2, f.2.0))
last name bytes mode failed s t left is (inr (inr (held, yes_))) leaves = inl yes_

law : NewLossLaw
law name bytes mode f f' s past [] left settled is all (inl leaves) = inr (inl (leaves.none is))
law name bytes mode f f' s past [] left settled is all (inr (open_, more)) = cc
law name bytes mode f f' s past (t ∷ since) left settled is all (inl leaves) = last name bytes mode (count_after true f ≤ f') s t left is all.0.file leaves
law name bytes mode f f' s past (t ∷ since) left settled is all (inr (open_, more)) = law name bytes mode f f' s past since left settled is all.1 more

pub returns : goal.returns
returns c = law
