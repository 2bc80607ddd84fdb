use Rattle.std.proofs.Common.{sym, ap, refl, ◌∙◌, Ok}
use Rattle.exif_edit_base.proofs.PlanSteps.{any_planned}
use Rattle.exif_edit.proofs.ClearSound.{clear_fits, clear_is, clear_refused}
use Rattle.exif_edit.proofs.clear.plan.Goals as goal

pub returns-in-Err-clause-answer : goal.returns-in-Err-clause-answer
returns-in-Err-clause-answer c =
    clear_refused c.args.bytes.now c.in-Err.fault (sym c.header.ensures.value ∙ c.in-Err.is)

pub returns-clause-answer : goal.returns-clause-answer
returns-clause-answer c =
    any_planned c.args.bytes.now _ refl
    ∙ sym (clear_is c.args.bytes.now c.in-Ok.order (sym c.header.ensures.value ∙ c.in-Ok.is)
    ∙ ap (λ ps. Ok ps) (sym c.in_ok-patches.ensures))

pub returns-clause-within : goal.returns-clause-within
returns-clause-within c =
    clear_fits c.args.bytes.now c.in_ok-patches.patches.items
    (clear_is c.args.bytes.now c.in-Ok.order (sym c.header.ensures.value ∙ c.in-Ok.is)
    ∙ ap (λ ps. Ok ps) (sym c.in_ok-patches.ensures))
