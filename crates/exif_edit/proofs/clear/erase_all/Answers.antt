use Rattle.std.proofs.Common.{sym, ap, subst, ◌∙◌, Ok, refl, length}
use Rattle.exif_edit.specs.Clearing.{IsCleared, clear_patches, clearing}
use Rattle.exif_edit_base.proofs.PlanSteps.{answer_made, answer_refused}
use Rattle.exif_edit.proofs.ClearSound.{clear_is, clear_refused, clear_sound, cleared_bytes}
use Rattle.exif_edit.proofs.clear.erase_all.Goals as goal

pub returns-in-Ok-clause-answer : goal.returns-in-Ok-clause-answer
returns-in-Ok-clause-answer c =
    let made = cleared_bytes c.in-Ok.order c.args.bytes.now c.put_first.new.bytes
    c.zero_behind.new.bytes c.empty_offset.result c.empty_offset.ensures c.put_first.ensures.value
    c.put_first.ensures.len c.zero_behind.ensures.value in
    answer_made (clear_patches c.args.bytes.now) c.args.bytes.now
    (clearing c.in-Ok.order (length c.args.bytes.now))
    (clear_is c.args.bytes.now c.in-Ok.order (sym c.header.ensures.value ∙ c.in-Ok.is))
    ∙ ap (λ xs. Ok xs) (sym made)

pub returns-in-Ok-clause-cleared : goal.returns-in-Ok-clause-cleared
returns-in-Ok-clause-cleared c =
    let made = cleared_bytes c.in-Ok.order c.args.bytes.now c.put_first.new.bytes
    c.zero_behind.new.bytes c.empty_offset.result c.empty_offset.ensures c.put_first.ensures.value
    c.put_first.ensures.len c.zero_behind.ensures.value in
    subst (λ xs. IsCleared c.args.bytes.now xs) (sym made)
    (clear_sound c.args.bytes.now c.in-Ok.order (sym c.header.ensures.value ∙ c.in-Ok.is))

pub returns-in-Err-clause-answer : goal.returns-in-Err-clause-answer
returns-in-Err-clause-answer c = (
  refl,
  answer_refused (clear_patches c.args.bytes.now) c.args.bytes.now _
      (clear_refused c.args.bytes.now c.in-Err.fault (sym c.header.ensures.value ∙ c.in-Err.is)),
)
