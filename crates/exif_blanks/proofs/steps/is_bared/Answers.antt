use Rattle.std.proofs.Common.{◌+◌, ◌&&◌, Bool, length, drop, ap, sym, ◌∙◌, arith}
use Rattle.std.specs.Str.{bytes_eq}
use Rattle.exif_blanks.specs.Steps.{bared_from}
use Rattle.exif_blanks.proofs.BareSame.{compared_on, compared_over}
use Rattle.exif_blanks.proofs.steps.is_bared.Goals as goal

pub returns-then-not-is_made_at : goal.returns-then-not-is_made_at
returns-then-not-is_made_at c =
    let l = c.loop-at in
    let old = c.args.old.now in
    let new = c.args.new.now in
    let step = c.step_at-step.result in
    let e = c.step_at-step.ensures in
    let tail = bytes_eq (bared_from (length (drop (l.at + step.len) old)) step.next (drop (l.at + step.len) old)) (drop (l.at + step.len) new) in
    ap (λ (b : Bool). b && tail) (sym (sym c.is_made_at.ensures ∙ c.if-not-is_made_at.true))
    ∙ sym (compared_on l.at l.next old new step c.loop-at-test.true c.requires e.value e.some e.kept e.within)
    ∙ l.invariant.same

pub loop-at-preserved : goal.loop-at-preserved
loop-at-preserved c =
    let l = c.loop-at in
    let old = c.args.old.now in
    let new = c.args.new.now in
    let step = c.step_at-step.result in
    let e = c.step_at-step.ensures in
    let tail = bytes_eq (bared_from (length (drop (l.at + step.len) old)) step.next (drop (l.at + step.len) old)) (drop (l.at + step.len) new) in
    record {
      same = ap (λ (b : Bool). b && tail) (sym (sym c.is_made_at.ensures ∙ c.if-not-is_made_at.false))
          ∙ sym (compared_on l.at l.next old new step c.loop-at-test.true c.requires e.value e.some e.kept e.within)
          ∙ l.invariant.same;
      within = e.within;
    }

pub returns : goal.returns
returns c =
    let l = c.loop-at in
    sym (compared_over l.at _ l.next c.args.old.now c.args.new.now (omega (arith, c.loop-at-test.false)) c.requires) ∙ l.invariant.same
