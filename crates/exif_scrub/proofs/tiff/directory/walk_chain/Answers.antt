use Rattle.std.proofs.lemmas.Result.{err_from_is_err_and}
use Rattle.std.proofs.Common.{◌-◌, sym, ◌∙◌, arith, rules}
use Rattle.exif_scrub.proofs.TiffSteps.{chain_ends, chain_first, chain_full, chain_next, chain_second, chain_third}
use Rattle.exif_scrub.proofs.tiff.directory.walk_chain.Goals as goal

pub returns-then-left-eq0 : goal.returns-then-left-eq0
returns-then-left-eq0 c =
    let a = c.args in
    let l = c.loop-at in
    sym l.invariant ∙ chain_full a.old.order a.old.bytes.now a.pass l.left l.at l.new c.if-left-eq0.true c.loop-at-test.true

pub returns-in_err-visit_directory : goal.returns-in_err-visit_directory
returns-in_err-visit_directory c =
    let a = c.args in
    let l = c.loop-at in
    let p = err_from_is_err_and c.from_residual.result c.from_residual.ensures.1 in
    rw (p.1, p.2) (sym l.invariant
    ∙ chain_first a.old.order a.old.bytes.now a.pass l.left (l.left - 1) l.at l.new c.in_err-visit_directory.field-0.0 (omega (arith, c.if-left-eq0.false)) c.loop-at-test.true
    c.in_err-visit_directory.ensures)

pub returns-in_err-walk_children : goal.returns-in_err-walk_children
returns-in_err-walk_children c =
    let a = c.args in
    let l = c.loop-at in
    let p = err_from_is_err_and c.from_residual-in_err-walk_children.result c.from_residual-in_err-walk_children.ensures.1 in
    rw (p.1, p.2) (sym l.invariant
    ∙ chain_second a.old.order a.old.bytes.now a.pass l.left (l.left - 1) l.at l.new c.visit_directory.new.new c.in_err-walk_children.field-0.0 (omega (arith, c.if-left-eq0.false)) c.loop-at-test.true
    c.in_ok-visit_directory.ensures c.in_err-walk_children.ensures)

pub returns-in_err-at : goal.returns-in_err-at
returns-in_err-at c =
    let a = c.args in
    let l = c.loop-at in
    let p = err_from_is_err_and c.from_residual-in_err-at.result c.from_residual-in_err-at.ensures.1 in
    rw (p.1, p.2) (sym l.invariant
    ∙ chain_third a.old.order a.old.bytes.now a.pass l.left (l.left - 1) l.at l.new c.visit_directory.new.new c.walk_children.new.new c.in_err-at.field-0.0 (omega (arith, c.if-left-eq0.false)) c.loop-at-test.true
    (search rules) (search rules) c.in_err-at.ensures)

pub loop-at-preserved : goal.loop-at-preserved
loop-at-preserved c =
    let a = c.args in
    let l = c.loop-at in
    sym (chain_next a.old.order a.old.bytes.now a.pass l.left (l.left - 1) l.at c.in_ok-at.at l.new c.visit_directory.new.new c.walk_children.new.new
    (omega (arith, c.if-left-eq0.false)) c.loop-at-test.true (search rules) (search rules) c.in_ok-at.ensures)
    ∙ l.invariant

pub returns : goal.returns
returns c =
    let a = c.args in
    let l = c.loop-at in
    sym l.invariant ∙ chain_ends a.old.order a.old.bytes.now a.pass l.left l.at l.new c.loop-at-test.false
