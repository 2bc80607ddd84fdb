-- Files that were looked for before.
use Rattle.std.proofs.Common.{◌≡◌, ◌∙◌, List, Option, Some, Result, Ok, Err, ap, sym}
use Rattle.std.specs.Prelude.{IfOk, Vec}
use Rattle.std.specs.Global.{Global}
use Rattle.std.specs.declared.alloc.AllocError.{AllocError}
use Rattle.exif_rename_commands.specs.declared.present.Found.{Found}

abbrev pub Copied : Type 0
Copied = Result (Vec (Option Found) Global) AllocError

-- what is answered is what is known
pub again_by : (r : Copied) (items : List (Option Found)) (known : Option (List (Option Found))) → known ≡ Some items
    → IfOk r (λ v. v.items ≡ items) → IfOk r (λ v. Some v.items ≡ known)
again_by (Ok v) items known e h = ap (λ t. Some t) h ∙ sym e
again_by (Err x) items known e h = tt

pub kept_by : (r : Copied) (items : List (Option Found)) (known : Option (List (Option Found))) → known ≡ Some items
    → IfOk r (λ v. v.items ≡ items) → IfOk r (λ v. known ≡ Some v.items)
kept_by (Ok v) items known e h = e ∙ ap (λ t. Some t) (sym h)
kept_by (Err x) items known e h = tt
