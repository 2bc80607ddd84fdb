use Rattle.std.proofs.Common.{ℕ, List, Result, Ok, ap, sym, ◌∙◌}
use Rattle.std.proofs.lemmas.Result.{err_from_is_err_and}
use Rattle.exif_types.specs.Refusals.{Refusal, ◌>>=◌}
use Rattle.exif_segments.specs.Removing.{payload_of}
use Rattle.exif_parts.specs.Jxl.{contained, if_contained, jxl_rewritten, with_box}
use Rattle.exif_parts.proofs.JxlSteps.{contained_then}
use Rattle.exif_parts.proofs.Refused.{refuses_fails}
use Rattle.exif_parts.proofs.jxl.rewrite_jxl.Goals as goal

pub returns-in_err-file-clause-gives : goal.returns-in_err-file-clause-gives
returns-in_err-file-clause-gives c =
    let remove = c.args.remove in
    let file = c.args.file.now in
    let new = c.in_ok-new.new.items in
    let p = err_from_is_err_and c.from_residual-in_err-file.result c.from_residual-in_err-file.ensures.1 in
    rw (p.1, p.2) (refuses_fails _ (contained file) (jxl_rewritten remove (payload_of c.args.put) file)
    (λ r e. ap (λ (b : Result (List ℕ) Refusal). b >>= λ (n : List ℕ). if_contained remove file n) c.in_ok-new.ensures.gives
    ∙ sym (contained_then remove file new)
    ∙ ap (λ (b : Result (List ℕ) Refusal). b >>= λ (f : List ℕ). Ok (with_box remove f new)) e) c.in_err-file.ensures.answer)

pub returns-clause-gives : goal.returns-clause-gives
returns-clause-gives c =
    let remove = c.args.remove in
    let file = c.args.file.now in
    let new = c.in_ok-new.new.items in
    ap (λ (b : Result (List ℕ) Refusal). b >>= λ (n : List ℕ). if_contained remove file n) c.in_ok-new.ensures.gives
    ∙ sym (contained_then remove file new)
    ∙ ap (λ (b : Result (List ℕ) Refusal). b >>= λ (f : List ℕ). Ok (with_box remove f new)) c.in_ok-file.ensures.answer
    ∙ ap (λ (x : List ℕ). Ok (with_box remove c.in_ok-file.file.now x)) (sym c.as_slice.ensures.value)
    ∙ ap (λ x. Ok x) (sym c.in_ok-with_box.ensures)
