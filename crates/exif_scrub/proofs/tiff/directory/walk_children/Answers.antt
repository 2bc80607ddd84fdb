use Rattle.std.proofs.lemmas.Result.{err_from_is_err_and}
use Rattle.std.proofs.Common.{◌+◌, ◌-◌, sym, ◌∙◌, arith, rules}
use Rattle.exif_scrub.proofs.TiffSteps.{children_halt, children_step, children_stop, children_whole}
use Rattle.exif_scrub.proofs.tiff.directory.walk_children.Goals as goal

pub returns-in_err-child : goal.returns-in_err-child
returns-in_err-child c =
    let a = c.args in
    let l = c.loop-index in
    let p = err_from_is_err_and c.from_residual-in_err-child.result c.from_residual-in_err-child.ensures.1 in
    rw (p.1, p.2) (children_whole a.old.order a.old.bytes.now a.pass a.at c.in_ok-count.count c.in-Some.entry c.in_ok-children.children a.new.now
    (rw c.from.ensures at c.in_ok-count.ensures) (rw (c.from-2.ensures, c.in-Some.is) at c.in_ok-entry.ensures.value) c.in_ok-children.ensures
    ∙ sym l.invariant
    ∙ children_halt a.old.order a.old.bytes.now a.pass c.in-Some.entry (c.in_ok-children.children - l.index) (c.in_ok-children.children - (l.index + 1)) l.index l.new c.in_err-child.field-0.0
    (omega (arith, c.loop-index-test.true)) (sym c.in_err-child.ensures))

pub returns-in_err-walk_child : goal.returns-in_err-walk_child
returns-in_err-walk_child c =
    let a = c.args in
    let l = c.loop-index in
    let p = err_from_is_err_and c.from_residual-in_err-walk_child.result c.from_residual-in_err-walk_child.ensures.1 in
    rw (p.1, p.2) (children_whole a.old.order a.old.bytes.now a.pass a.at c.in_ok-count.count c.in-Some.entry c.in_ok-children.children a.new.now
    (rw c.from.ensures at c.in_ok-count.ensures) (rw (c.from-2.ensures, c.in-Some.is) at c.in_ok-entry.ensures.value) c.in_ok-children.ensures
    ∙ sym l.invariant
    ∙ children_stop a.old.order a.old.bytes.now a.pass c.in-Some.entry (c.in_ok-children.children - l.index) (c.in_ok-children.children - (l.index + 1)) l.index c.in_ok-child.child l.new c.in_err-walk_child.field-0.0
    (omega (arith, c.loop-index-test.true)) (sym c.in_ok-child.ensures) c.in_err-walk_child.ensures)

pub loop-index-preserved : goal.loop-index-preserved
loop-index-preserved c =
    let a = c.args in
    let l = c.loop-index in
    sym (children_step a.old.order a.old.bytes.now a.pass c.in-Some.entry (c.in_ok-children.children - l.index) (c.in_ok-children.children - (l.index + 1)) l.index c.in_ok-child.child l.new c.walk_child.new.new
    (omega (arith, c.loop-index-test.true)) (sym c.in_ok-child.ensures) (search rules))
    ∙ l.invariant
