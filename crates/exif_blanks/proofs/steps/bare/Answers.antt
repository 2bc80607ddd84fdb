use Rattle.std.proofs.Common.{◌+◌, sym, ◌∙◌, arith}
use Rattle.exif_blanks.proofs.BareSteps.{cleared_long, step_made, steps_over}
use Rattle.exif_blanks.proofs.steps.bare.Goals as goal

pub loop-at-preserved : goal.loop-at-preserved
loop-at-preserved c =
    let l = c.loop-at in
    let step = c.step_at-step.result in
    let e = c.step_at-step.ensures in
    let long = cleared_long (l.at + step.kept) (l.at + step.len) step.fill l.bytes c.blank.new.bytes (omega (arith, e.kept)) e.within c.blank.ensures in
    record {
      made = step_made l.at l.next l.bytes c.blank.new.bytes step c.loop-at-test.true e.value e.some e.kept e.within c.blank.ensures
          ∙ l.invariant.made;
      within = omega (arith, e.within, long);
      long = long ∙ l.invariant.long;
    }

pub returns : goal.returns
returns c =
    let l = c.loop-at in
    sym (steps_over l.at _ l.next l.bytes (omega (arith, c.loop-at-test.false))) ∙ l.invariant.made
