use Rattle.std.proofs.Common.{rules, arith}
use Rattle.std.proofs.lemmas.Result.{err_from_is_err_and}
use Rattle.exif_formats.proofs.BoxSteps.{jxl_passed, jxl_found, jxl_fails, jxl_collects}
use Rattle.exif_formats.proofs.jxl.file.get_exif_attr_from_jxl.Goals as goal

pub returns-in_err-tiff-clause-refused : goal.returns-in_err-tiff-clause-refused
returns-in_err-tiff-clause-refused g c =
    let p = err_from_is_err_and c.from_residual-in_err-tiff.result c.from_residual-in_err-tiff.ensures.1 in
    rw (p.1, p.2)
    (jxl_fails _ (g.R.Source.left c.args.source.now) (g.R.Source.left c.loop-left.source) c.loop-left.left (omega arith) c.loop-left.invariant.passed c.in_err-tiff.ensures.refused)

pub returns-in_err-tiff-clause-memory : goal.returns-in_err-tiff-clause-memory
returns-in_err-tiff-clause-memory g c =
    let p = err_from_is_err_and c.from_residual-in_err-tiff.result c.from_residual-in_err-tiff.ensures.1 in
    rw (p.1, p.2)
    (λ h. jxl_collects (g.R.Source.left c.args.source.now) (g.R.Source.left c.loop-left.source) c.loop-left.left (omega arith) c.loop-left.invariant.passed (c.in_err-tiff.ensures.memory h))

pub returns-in-Some-clause-found : goal.returns-in-Some-clause-found
returns-in-Some-clause-found g c =
    jxl_found c.in-Some.tiff.items _ _ _ c.loop-left.left (omega arith) c.loop-left.invariant.passed (rw c.in-Some.is at c.in_ok-tiff.ensures.next)

pub loop-left-preserved : goal.loop-left-preserved
loop-left-preserved g c = record {
  passed = jxl_passed _ _ _ c.loop-left.left (omega arith) c.loop-left.invariant.passed (rw c.in_default.is at c.in_ok-tiff.ensures.next);
  small = omega arith;
  count = search rules;
  same = search rules;
}
