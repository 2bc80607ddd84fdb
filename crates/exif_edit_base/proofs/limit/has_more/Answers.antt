use Rattle.std.proofs.Common.{◌∙◌}
use Rattle.exif_edit_base.proofs.LimitSteps.{answer_tells, refusal_tells}
use Rattle.exif_edit_base.proofs.limit.has_more.Goals as goal

pub returns-in-Ok : goal.returns-in-Ok
returns-in-Ok c =
    (rw c.as_slice.ensures.value at c.has_limit_fault.ensures)
    ∙ answer_tells c.args.limit c.args.bytes.now c.in-Ok.parsed.fields.items
    c.in-Ok.parsed.faults.items c.in-Ok.ensures.says

pub returns-in-Err-Fault : goal.returns-in-Err-Fault
returns-in-Err-Fault c =
    refusal_tells c.args.limit c.args.bytes.now c.in-Err-Fault.field-0-0
    (rw c.in-Err-Fault.field-0-is at c.in-Err-Fault.ensures.says)
