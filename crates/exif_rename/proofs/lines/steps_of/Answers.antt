use Rattle.std.proofs.Common.{◌∙◌, ap, map, subst, sym}
use Rattle.exif_rename.proofs.LineTexts.{AreOf, all_lines, begun, empty_from, empty_more, filled_from, first_wrong, now_of, step_more}
use Rattle.exif_rename.specs.Lines.{IsStepOf}
use Rattle.exif_rename.proofs.lines.steps_of.Goals as goal

pub loop-index-init : goal.loop-index-init
loop-index-init c = begun c.new-steps.result.items c.new-steps.ensures.items

pub loop-index-preserved-then-is_empty : goal.loop-index-preserved-then-is_empty
loop-index-preserved-then-is_empty c =
    empty_more c.deref-line-items.result.now c.loop-index.steps.items c.loop-index.index _ c.loop-index-test.true
    (empty_from _ c.is_empty.result c.is_empty.ensures c.if-is_empty.true) c.loop-index.invariant

pub loop-index-preserved : goal.loop-index-preserved
loop-index-preserved c =
    let is = subst (IsStepOf _) c.in-Some.is c.in_ok-step.ensures in
    subst (AreOf _) (sym c.in_ok-push-in-Some.ensures.items)
    (step_more c.deref-line-items.result.now c.loop-index.steps.items c.loop-index.index _ c.in-Some.step c.loop-index-test.true
    (filled_from _ c.is_empty.result c.is_empty.ensures c.if-is_empty.false) is c.loop-index.invariant)

pub returns-in-None-clause-wrong : goal.returns-in-None-clause-wrong
returns-in-None-clause-wrong c =
    first_wrong _ c.deref-line-items.result.now c.loop-index.index _ c.loop-index.steps.items c.in_ok-step.field-0
    (ap (map now_of) c.deref-line-items.ensures.value ∙ c.in_ok-lines.ensures) c.loop-index-test.true c.loop-index.invariant
    (filled_from _ c.is_empty.result c.is_empty.ensures c.if-is_empty.false) c.in_ok-step.ensures c.in-None.is

pub returns-clause-steps : goal.returns-clause-steps
returns-clause-steps c =
    all_lines _ c.deref-line-items.result.now c.loop-index.index c.loop-index.steps.items
    (ap (map now_of) c.deref-line-items.ensures.value ∙ c.in_ok-lines.ensures) c.loop-index-test.false c.loop-index.invariant
