-- Data that can't be read: what becomes of them.
use Rattle.std.proofs.Common.{◌≡◌, ℕ, List, Option, Some, None, Result, Err, ap, sym, ◌∙◌}
use Rattle.exif_locations.specs.Unread.{or_unread, unread_answer}
use Rattle.exif_locations.specs.declared.unread.Unread.{Unread}
use Rattle.exif_locations.specs.declared.unread.Unread.TheVariants.{Keep, Blank}

-- they stay
pub kept : {F : Type 0} → (blank old new : List ℕ) (r : Result (List ℕ) F) (fault : F) (unread : Unread) → unread ≡ Keep → new ≡ old → r ≡ Err fault
    → (new, Some fault) ≡ or_unread unread blank old r
kept blank old new r fault unread u n e =
    ap (λ bytes. (bytes, Some fault)) n
    ∙ sym (ap (or_unread unread blank old) e ∙ ap (λ x. unread_answer x blank old fault) u)

-- bytes with no reason
abbrev alone : {F : Type 0} → List ℕ → List ℕ × Option F
alone bytes = (bytes, None)

-- or are overwritten
pub blanked : {F : Type 0} → (blank old new : List ℕ) (r : Result (List ℕ) F) (fault : F) (unread : Unread) → unread ≡ Blank → new ≡ blank → r ≡ Err fault
    → (new, None) ≡ or_unread unread blank old r
blanked {F = F} blank old new r fault unread u n e =
    ap (alone {F = F}) n
    ∙ sym (ap (or_unread unread blank old) e ∙ ap (λ x. unread_answer x blank old fault) u)
