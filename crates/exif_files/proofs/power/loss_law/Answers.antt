use Rattle.std.proofs.Common.{◌≡◌, ℕ, List, [], ◌∷◌, Bool, true, Option, Some, ◌∙◌, ◌⊎◌, inl, inr}
use Rattle.exif_files.specs.States.{Entry, State}
use Rattle.exif_files.specs.Written.{IsNew}
use Rattle.exif_files.specs.PowerLoss.{Leaves, LossLaw}
use Rattle.exif_files.proofs.power.loss_law.Goals as goal

last : (name bytes : List ℕ) (times calm : Bool) (s t : State) (old : Entry) (left : Option Entry) → s.at name ≡ Some old → old.kept ≡ true → (t.at name ≡ s.at name) ⊎ IsNew name bytes times calm s t → Leaves (t.at name) left
    → (left ≡ Some old) ⊎ ((f : Entry) × (left ≡ Some f) × (f.bytes ≡ bytes))
last name bytes times calm s t old left is kept (inl same) leaves = inl (leaves.whole old (same ∙ is) kept)
last name bytes times calm s t old left is kept (inr new) leaves = let f = new.2 in inr (f.0, leaves.whole f.0 f.1 f.2.2, f.2.0)

law : LossLaw
law name backup bytes times calm s past [] old left settled is kept all (inl leaves) = inl (leaves.whole old is kept)
law name backup bytes times calm s past [] old left settled is kept all (inr (open_, more)) = cc
law name backup bytes times calm s past (t ∷ since) old left settled is kept all (inl leaves) = last name bytes times calm s t old left is kept all.0.file leaves
law name backup bytes times calm s past (t ∷ since) old left settled is kept all (inr (open_, more)) = law name backup bytes times calm s past since old left settled is kept all.1 more

pub returns : goal.returns
returns c = law
