use Rattle.exif_edit_base.specs.Patches.{patched}
use Rattle.exif_edit.specs.Promises.{FindsNone, IsFieldErased}
use Rattle.exif_edit.specs.Removing.{field_patches}
use Rattle.exif_edit_base.proofs.PlanSteps.{carried_sound}
use Rattle.exif_edit.proofs.RemoveSound.{field_sound}
use Rattle.exif_edit.proofs.SetFound.{none_found}
use Rattle.exif_edit.proofs.remove.erase_field.Goals as goal

pub returns-clause-erased : goal.returns-clause-erased
returns-clause-erased c =
    let old = c.args.bytes.now in
    let tag = c.args.tag in
    let k = c.args.ifd_num in
    carried_sound (λ xs. IsFieldErased old tag k xs) c.carry_out.result old c.carry_out.new.bytes
    c.in_ok-plan.plan (field_patches old tag k) c.in_ok-plan.ensures.answer c.carry_out.ensures
    (λ ps h. field_sound old tag k ps h)

pub returns-clause-gone : goal.returns-clause-gone
returns-clause-gone c =
    let old = c.args.bytes.now in
    let tag = c.args.tag in
    let k = c.args.ifd_num in
    carried_sound (λ xs. FindsNone tag k xs) c.carry_out.result old c.carry_out.new.bytes
    c.in_ok-plan.plan (field_patches old tag k) c.in_ok-plan.ensures.answer c.carry_out.ensures
    (λ ps h. none_found old (patched ps old) tag k (field_sound old tag k ps h))
