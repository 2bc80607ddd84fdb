use Rattle.std.proofs.Common.{sym, ◌∙◌}
use Rattle.exif_edit_base.proofs.LimitedSteps.{limit_kept, limited_is}
use Rattle.exif_edit.specs.Setting.{set_patches}
use Rattle.exif_edit.proofs.SetSteps.{set_named, set_unknown, set_known}
use Rattle.exif_edit.proofs.set.plan.Goals as goal

pub returns-then-names_offsets-clause-answer : goal.returns-then-names_offsets-clause-answer
returns-then-names_offsets-clause-answer c =
    limited_is c.args.limit c.args.bytes.now
    (set_patches c.args.bytes.now c.args.tag c.args.ifd_num c.args.value.now)
    (limit_kept c.args.limit c.args.bytes.now c.in_ok-check_limit.field-0
    c.in_ok-check_limit.ensures)
    ∙ set_named c.args.bytes.now c.args.tag c.args.ifd_num c.args.value.now
    (sym c.names_offsets.ensures ∙ c.if-names_offsets.true)

pub returns-then-is_unknown-clause-answer : goal.returns-then-is_unknown-clause-answer
returns-then-is_unknown-clause-answer c =
    limited_is c.args.limit c.args.bytes.now
    (set_patches c.args.bytes.now c.args.tag c.args.ifd_num c.args.value.now)
    (limit_kept c.args.limit c.args.bytes.now c.in_ok-check_limit-2.field-0
    c.in_ok-check_limit-2.ensures)
    ∙ set_unknown c.args.bytes.now c.args.tag c.args.ifd_num c.args.value.now
    (sym c.names_offsets.ensures ∙ c.if-names_offsets.false)
    (sym c.is_unknown.ensures ∙ c.if-is_unknown.true)

pub returns-clause-answer : goal.returns-clause-answer
returns-clause-answer c =
    rw (set_known c.args.bytes.now c.args.tag c.args.ifd_num c.args.value.now
    (sym c.names_offsets.ensures ∙ c.if-names_offsets.false)
    (sym c.is_unknown.ensures ∙ c.if-is_unknown.false)) at c.plan_known.ensures.answer
