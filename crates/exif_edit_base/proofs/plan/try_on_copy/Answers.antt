use Rattle.exif_edit_base.proofs.PlanSteps.{any_planned, read_planned}
use Rattle.exif_edit_base.proofs.plan.try_on_copy.Goals as goal

pub returns-in-Anything-clause-answer : goal.returns-in-Anything-clause-answer
returns-in-Anything-clause-answer c =
    any_planned c.args.bytes.now c.args.plan c.in-Anything.is

pub returns-then-same-clause-answer : goal.returns-then-same-clause-answer
returns-then-same-clause-answer c =
    (read_planned c.args.bytes.now c.in_ok-new-in_default.new.items c.args.plan
    c.in_ok-same-in_default.same
    (rw c.as_slice.ensures.value at c.in_ok-new-in_default.ensures)
    (rw c.as_slice-in_default.ensures.value
    at c.in_ok-same-in_default.ensures)).0
    c.if-same.true

pub returns-else-same-clause-answer : goal.returns-else-same-clause-answer
returns-else-same-clause-answer c =
    (read_planned c.args.bytes.now c.in_ok-new-in_default.new.items c.args.plan
    c.in_ok-same-in_default.same
    (rw c.as_slice.ensures.value at c.in_ok-new-in_default.ensures)
    (rw c.as_slice-in_default.ensures.value
    at c.in_ok-same-in_default.ensures)).1
    c.if-same.false
