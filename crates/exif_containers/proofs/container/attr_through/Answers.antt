use Rattle.std.proofs.Common.{◌≡◌, Ok, rules}
use Rattle.std.proofs.lemmas.Result.{err_from_is_err_and}
use Rattle.exif_types.specs.Refusals.{Fails}
use Rattle.exif_containers.proofs.ContainerSteps.{container_begins, interrupted}
use Rattle.exif_containers.proofs.container.attr_through.Goals as goal

pub returns-in_err-payload-clause-gives : goal.returns-in_err-payload-clause-gives
returns-in_err-payload-clause-gives g c =
    let p = err_from_is_err_and c.from_residual-in_err-payload.result c.from_residual-in_err-payload.ensures.1 in
    let head = c.in_ok-filled.ensures in
    rw (p.1, p.2) (container_begins (Fails c.in_err-payload.field-0.0) c.in_ok-filled.filled c.read_signature.new.block _ c.args.origin (g.R.Source.stream c.args.source.now) _ _ (g.R.Source.left c.read_signature.new.source) _
    head.taken head.bound head.most (search rules) head.end c.format_of-format.ensures (search rules) (search rules) c.in_err-payload.ensures.gives)

pub returns-clause-gives : goal.returns-clause-gives
returns-clause-gives g c =
    let head = c.in_ok-filled.ensures in
    container_begins (λ t. t ≡ Ok c.in_ok-payload.payload.items) c.in_ok-filled.filled c.read_signature.new.block _ c.args.origin (g.R.Source.stream c.args.source.now) _ _ (g.R.Source.left c.read_signature.new.source) _
    head.taken head.bound head.most (search rules) head.end c.format_of-format.ensures (search rules) (search rules) c.in_ok-payload.ensures.gives

pub returns-in_err-filled-clause-gives : goal.returns-in_err-filled-clause-gives
returns-in_err-filled-clause-gives g c =
    let p = err_from_is_err_and c.from_residual.result c.from_residual.ensures.1 in
    rw (p.1, p.2) (interrupted (g.R.Source.left c.args.source.now) _)
