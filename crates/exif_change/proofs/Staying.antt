-- Parts that may still hold a location, reported one after the other.
use Rattle.std.proofs.Common.{◌≡◌, ◌<◌, ◌+◌, ℕ, List, [], ◌∷◌, ◌++◌, map, take, length, get_or, Option, Some, ap, sym, ◌∙◌}
use Rattle.std.proofs.lemmas.List.{map-append, take_more}
use Rattle.exif_privacy.specs.declared.remaining.Remaining.{Remaining}
use Rattle.exif_change.specs.Changed.{Undone, stays, undone_of}
use Rattle.exif_change.specs.declared.changed.Residual.{Residual}
use Rattle.exif_change.specs.declared.changed.Residual.TheVariants as left

-- one part more
pub one_more : (parts : List Remaining) (so_far out : List Residual) (i : ℕ) (d : Remaining) → i < length parts
    → map undone_of so_far ≡ map (λ part. Some (stays part)) (take i parts) → out ≡ so_far ++ left.Remaining (get_or parts i d) ∷ []
    → map undone_of out ≡ map (λ part. Some (stays part)) (take (i + 1) parts)
one_more parts so_far out i d h before e =
    let f : Remaining → Option Undone = λ part. Some (stays part) in
    let last : List (Option Undone) = f (get_or parts i d) ∷ [] in
    ap (map undone_of) e
    ∙ (map-append undone_of so_far (left.Remaining (get_or parts i d) ∷ [])
    ∙ (ap (λ us. us ++ last) before
    ∙ (sym (map-append f (take i parts) (get_or parts i d ∷ []))
    ∙ ap (map f) (sym (take_more parts i d h)))))
