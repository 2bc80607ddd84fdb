-- One more byte of a packet, and those that are left.
use Rattle.std.proofs.Common.{◌≡◌, ℕ, ◌+◌, ◌<◌, Bool, cond, List, drop, length, Option, Some, ap, sym, ◌∙◌}
use Rattle.std.proofs.lemmas.List.{drop_more}
use Rattle.exif_xmp_set.specs.Added.{is_rdf_end, rdf_end}

pub end_step : (packet : List ℕ) (found next : Option ℕ) (i : ℕ) (b : Bool) → i < length packet → is_rdf_end (drop i packet) ≡ b → next ≡ cond b (Some i) found
    → rdf_end found i (drop i packet) ≡ rdf_end next (i + 1) (drop (i + 1) packet)
end_step packet found next i b below is next_is =
    let d = drop_more packet i 0 below in
    ap (λ bs. rdf_end found i bs) d
    ∙ (ap (λ bs. rdf_end (cond (is_rdf_end bs) (Some i) found) (i + 1) (drop (i + 1) packet)) (sym d)
    ∙ (ap (λ c. rdf_end (cond c (Some i) found) (i + 1) (drop (i + 1) packet)) is
    ∙ ap (λ n. rdf_end n (i + 1) (drop (i + 1) packet)) (sym next_is)))
