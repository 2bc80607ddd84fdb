use Rattle.std.proofs.lemmas.Result.{err_from_is_err_and}
use Rattle.std.proofs.Common.{◌+◌, ◌-◌, sym, ◌∙◌, arith, rules}
use Rattle.exif_base.specs.Orders.{number_of}
use Rattle.exif_scrub.proofs.TiffSteps.{strip_first, strip_is, strip_second, strips_step, strips_stop}
use Rattle.exif_scrub.proofs.tiff.picture.visit_strips.Goals as goal

pub returns-in_err-item_at : goal.returns-in_err-item_at
returns-in_err-item_at c =
    let a = c.args in
    let l = c.loop-index in
    let p = err_from_is_err_and c.from_residual.result c.from_residual.ensures.1 in
    rw (p.1, p.2) (sym l.invariant
    ∙ strips_stop (number_of a.old.order) a.old.bytes.now a.how a.offsets a.lengths (a.count - l.index) (a.count - (l.index + 1)) l.index l.new c.in_err-item_at.field-0.0 (omega (arith, c.loop-index-test.true))
    (strip_first (number_of a.old.order) a.old.bytes.now a.how a.offsets a.lengths l.index l.new _ c.in_err-item_at.ensures))

pub returns-in_err-item_at-2 : goal.returns-in_err-item_at-2
returns-in_err-item_at-2 c =
    let a = c.args in
    let l = c.loop-index in
    let p = err_from_is_err_and c.from_residual-in_err-item_at-2.result c.from_residual-in_err-item_at-2.ensures.1 in
    rw (p.1, p.2) (sym l.invariant
    ∙ strips_stop (number_of a.old.order) a.old.bytes.now a.how a.offsets a.lengths (a.count - l.index) (a.count - (l.index + 1)) l.index l.new c.in_err-item_at-2.field-0.0 (omega (arith, c.loop-index-test.true))
    (strip_second (number_of a.old.order) a.old.bytes.now a.how a.offsets a.lengths l.index _ l.new _ c.in_ok-item_at.ensures c.in_err-item_at-2.ensures))

pub returns-in_err-visit_stretch : goal.returns-in_err-visit_stretch
returns-in_err-visit_stretch c =
    let a = c.args in
    let l = c.loop-index in
    let p = err_from_is_err_and c.from_residual-in_err-visit_stretch.result c.from_residual-in_err-visit_stretch.ensures.1 in
    rw (p.1, p.2) (sym l.invariant
    ∙ strips_stop (number_of a.old.order) a.old.bytes.now a.how a.offsets a.lengths (a.count - l.index) (a.count - (l.index + 1)) l.index l.new c.in_err-visit_stretch.field-0.0 (omega (arith, c.loop-index-test.true))
    (strip_is (number_of a.old.order) a.old.bytes.now a.how a.offsets a.lengths l.index _ _ l.new _ c.in_ok-item_at.ensures c.in_ok-item_at-2.ensures (search rules)))

pub loop-index-preserved : goal.loop-index-preserved
loop-index-preserved c =
    let a = c.args in
    let l = c.loop-index in
    sym (strips_step (number_of a.old.order) a.old.bytes.now a.how a.offsets a.lengths (a.count - l.index) (a.count - (l.index + 1)) l.index l.new c.visit_stretch.new.new (omega (arith, c.loop-index-test.true))
    (strip_is (number_of a.old.order) a.old.bytes.now a.how a.offsets a.lengths l.index _ _ l.new _ c.in_ok-item_at.ensures c.in_ok-item_at-2.ensures (search rules)))
    ∙ l.invariant
