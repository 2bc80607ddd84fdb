use Rattle.std.proofs.Common.{Result, List, ℕ, subst, ◌∙◌}
use Rattle.exif_edit_base.specs.Causes.{Cause, Edits}
use Rattle.exif_edit_base.specs.Plans.{planned}
use Rattle.exif_edit_base.proofs.PlanSteps.{carried_sound}
use Rattle.exif_edit.specs.Edits.{IsEdited, limited_patches}
use Rattle.exif_edit.proofs.EditsSound.{edit_sound, limited_carried, unlimited}
use Rattle.exif_edit.proofs.edits.apply.Goals as goal

pub returns-clause-answer : goal.returns-clause-answer
returns-clause-answer c =
    let P : Result (List ℕ) Cause → Type 0 = λ answer.
    Edits c.carry_out.result c.args.bytes.now c.carry_out.new.bytes answer in
    subst P (limited_carried c.args.limit c.args.edit.now c.args.bytes.now
    (planned c.args.bytes.now c.in_ok-plan.plan) c.in_ok-plan.ensures.answer) c.carry_out.ensures

pub returns-clause-promise : goal.returns-clause-promise
returns-clause-promise c =
    let old = c.args.bytes.now in
    let edit = c.args.edit.now in
    carried_sound (λ xs. IsEdited edit old xs) c.carry_out.result old c.carry_out.new.bytes
    c.in_ok-plan.plan (limited_patches c.args.limit edit old) c.in_ok-plan.ensures.answer
    c.carry_out.ensures
    (λ ps h. edit_sound edit old ps (unlimited c.args.limit edit old ps h))
