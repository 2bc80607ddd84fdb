use Rattle.std.proofs.Common.{◌≡◌, Ok, rules}
use Rattle.std.proofs.lemmas.Result.{err_from_is_err_and}
use Rattle.exif_types.specs.Refusals.{Fails}
use Rattle.exif_containers.specs.Located.{located_view}
use Rattle.exif_containers.proofs.LocatedSteps.{located_holds, nothing_said}
use Rattle.exif_containers.proofs.located.located_through.Goals as goal

pub returns-in_err-found-clause-gives : goal.returns-in_err-found-clause-gives
returns-in_err-found-clause-gives g c =
    let p = err_from_is_err_and c.from_residual-in_err-found.result c.from_residual-in_err-found.ensures.1 in
    let head = c.in_ok-filled.ensures in
    rw (p.1, p.2) (located_holds (Fails c.in_err-found.field-0.0) c.in_ok-filled.filled c.read_signature.new.block _ _ (g.R.Source.left c.read_signature.new.source) _
    head.taken head.bound head.most (search rules) head.end c.format_of-format.ensures (search rules) c.in_err-found.ensures.gives)

pub returns-clause-gives : goal.returns-clause-gives
returns-clause-gives g c =
    let head = c.in_ok-filled.ensures in
    located_holds (λ t. t ≡ Ok (located_view c.in_ok-found.found)) c.in_ok-filled.filled c.read_signature.new.block _ _ (g.R.Source.left c.read_signature.new.source) _
    head.taken head.bound head.most (search rules) head.end c.format_of-format.ensures (search rules) c.in_ok-found.ensures.gives

pub returns-in_err-filled-clause-gives : goal.returns-in_err-filled-clause-gives
returns-in_err-filled-clause-gives g c =
    let p = err_from_is_err_and c.from_residual.result c.from_residual.ensures.1 in
    rw (p.1, p.2) (nothing_said (g.R.Source.left c.args.source.now))
