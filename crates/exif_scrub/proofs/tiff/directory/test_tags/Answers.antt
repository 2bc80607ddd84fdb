use Rattle.std.proofs.lemmas.Result.{err_from_is_err_and}
use Rattle.std.proofs.Common.{◌+◌, ◌-◌, sym, ◌∙◌, refl, arith}
use Rattle.exif_base.specs.Orders.{number_of}
use Rattle.exif_scrub.proofs.TiffSteps.{tags_step, tags_stop}
use Rattle.exif_scrub.proofs.tiff.directory.test_tags.Goals as goal

pub returns-in_err-test_entry : goal.returns-in_err-test_entry
returns-in_err-test_entry c =
    let a = c.args in
    let l = c.loop-left in
    let p = err_from_is_err_and c.from_residual.result c.from_residual.ensures.1 in
    rw (p.1, p.2) (sym (tags_stop (number_of a.old.order) a.old.bytes.now a.keeps_orientation l.left (l.left - 1) l.at c.in_err-test_entry.field-0.0 (omega (arith, c.loop-left-test.true)) c.in_err-test_entry.ensures)
    ∙ l.invariant.same)

pub loop-left-preserved : goal.loop-left-preserved
loop-left-preserved c =
    let a = c.args in
    let l = c.loop-left in
    record {
      same = sym (tags_step (number_of a.old.order) a.old.bytes.now a.keeps_orientation l.left (l.left - 1) l.at (l.at + 12) (omega (arith, c.loop-left-test.true)) refl c.in_ok-test_entry.ensures)
          ∙ l.invariant.same;
      bound = omega (arith, l.invariant.bound, c.loop-left-test.true);
    }
