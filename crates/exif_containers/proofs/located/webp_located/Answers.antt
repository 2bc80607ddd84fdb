use Rattle.std.proofs.Common.{Err}
use Rattle.std.proofs.lemmas.Result.{err_from_is_err_and}
use Rattle.exif_containers.specs.Located.{located_view}
use Rattle.exif_containers.proofs.LocatedSteps.{webp_fails, webp_found}
use Rattle.exif_containers.proofs.ContainerNames.{named_webp}
use Rattle.exif_containers.proofs.located.webp_located.Goals as goal

pub returns-clause-gives : goal.returns-clause-gives
returns-clause-gives g c =
    webp_found (g.R.Source.left c.args.source.now) (g.R.Source.left c.locate.new.source) c.in_ok-data.data.items c.in_ok-data.offset (located_view c.in_ok-in_one.field-0) c.in_ok-data.ensures.found c.in_ok-in_one.ensures

pub returns-in_err-data-clause-gives : goal.returns-in_err-data-clause-gives
returns-in_err-data-clause-gives g c =
    let p = err_from_is_err_and c.from_residual.result c.from_residual.ensures.1 in
    rw (p.1, p.2) (webp_fails c.in_err-data.field-0.0 (g.R.Source.left c.args.source.now) c.in_err-data.ensures.refused)

pub returns-in_err-data-clause-named : goal.returns-in_err-data-clause-named
returns-in_err-data-clause-named g c =
    let p = err_from_is_err_and c.from_residual.result c.from_residual.ensures.1 in
    rw (p.1, p.2) (named_webp {T = Unit {0}} (Err c.in_err-data.field-0.0) c.in_err-data.ensures.named)
