use Rattle.std.proofs.Common.{sym, ◌∙◌}
use Rattle.exif_edit_base.proofs.LimitedSteps.{limit_kept, limited_is}
use Rattle.exif_edit.specs.Removing.{field_patches}
use Rattle.exif_edit.proofs.RemoveSteps.{field_else, field_named}
use Rattle.exif_edit.proofs.remove.plan.Goals as goal

pub returns-then-names_offsets-clause-answer : goal.returns-then-names_offsets-clause-answer
returns-then-names_offsets-clause-answer c =
    limited_is c.args.limit c.args.bytes.now
    (field_patches c.args.bytes.now c.args.tag c.args.ifd_num)
    (limit_kept c.args.limit c.args.bytes.now c.in_ok-check_limit.field-0
    c.in_ok-check_limit.ensures)
    ∙ field_named c.args.bytes.now c.args.tag c.args.ifd_num
    (sym c.names_offsets.ensures ∙ c.if-names_offsets.true)

pub returns-clause-answer : goal.returns-clause-answer
returns-clause-answer c =
    rw (field_else c.args.bytes.now c.args.tag c.args.ifd_num
    (sym c.names_offsets.ensures ∙ c.if-names_offsets.false)) c.plan_removals.ensures.answer
