use Rattle.std.proofs.Common.{Err}
use Rattle.std.proofs.lemmas.Result.{err_from_is_err_and}
use Rattle.exif_isobmff.specs.LocatedView.{located_view}
use Rattle.exif_containers.proofs.LocatedSteps.{heif_fails, heif_found}
use Rattle.exif_containers.proofs.ContainerNames.{named_heif}
use Rattle.exif_containers.proofs.located.heif_located.Goals as goal

pub returns-clause-gives : goal.returns-clause-gives
returns-clause-gives g c =
    heif_found (g.R.Source.left c.args.source.now) (located_view c.in_ok-found.found) c.in_ok-found.ensures.gives

pub returns-in_err-found-clause-gives : goal.returns-in_err-found-clause-gives
returns-in_err-found-clause-gives g c =
    let p = err_from_is_err_and c.from_residual.result c.from_residual.ensures.1 in
    rw (p.1, p.2) (heif_fails c.in_err-found.field-0.0 (g.R.Source.left c.args.source.now) c.in_err-found.ensures.gives)

pub returns-in_err-found-clause-named : goal.returns-in_err-found-clause-named
returns-in_err-found-clause-named g c =
    let p = err_from_is_err_and c.from_residual.result c.from_residual.ensures.1 in
    rw (p.1, p.2) (named_heif {T = Unit {0}} (Err c.in_err-found.field-0.0) c.in_err-found.ensures.named)
