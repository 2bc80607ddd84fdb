use Rattle.std.proofs.lemmas.Result.{err_from_is_err_and}
use Rattle.exif_edit_base.proofs.LimitedSteps.{stop_refused}
use Rattle.exif_edit_base.proofs.limit.locate_within.Goals as goal

pub returns-in_err-locate-in-None-clause-reads : goal.returns-in_err-locate-in-None-clause-reads
returns-in_err-locate-in-None-clause-reads c =
    let p = err_from_is_err_and c.from_residual.result c.from_residual.ensures.1 in
    rw (p.1, c.in-None.is) (stop_refused c.in_err-locate-in-None.field-0.0 c.args.bytes.now p.0 c.in_err-locate-in-None.ensures.reads p.2)
