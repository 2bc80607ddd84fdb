use Rattle.std.proofs.lemmas.Result.{err_from_is_err_and}
use Rattle.std.proofs.Common.{◌+◌, ◌-◌, sym, ◌∙◌, refl, arith}
use Rattle.exif_base.specs.Orders.{number_of}
use Rattle.exif_scrub.proofs.TiffSteps.{shapes_step, shapes_stop}
use Rattle.exif_scrub.proofs.tiff.shape.test_shapes.Goals as goal

pub returns-in_err-test_shape : goal.returns-in_err-test_shape
returns-in_err-test_shape c =
    let a = c.args in
    let l = c.loop-left in
    let p = err_from_is_err_and c.from_residual.result c.from_residual.ensures.1 in
    rw (p.1, p.2) (sym (shapes_stop (number_of a.old.order) a.old.bytes.now a.keeps_orientation a.count a.first l.left (l.left - 1) l.at c.in_err-test_shape.field-0.0 (omega (arith, c.loop-left-test.true)) c.in_err-test_shape.ensures)
    ∙ l.invariant.same)

pub loop-left-preserved : goal.loop-left-preserved
loop-left-preserved c =
    let a = c.args in
    let l = c.loop-left in
    record {
      same = sym (shapes_step (number_of a.old.order) a.old.bytes.now a.keeps_orientation a.count a.first l.left (l.left - 1) l.at (l.at + 12) (omega (arith, c.loop-left-test.true)) refl c.in_ok-test_shape.ensures)
          ∙ l.invariant.same;
      bound = omega (arith, l.invariant.bound, c.loop-left-test.true);
    }
