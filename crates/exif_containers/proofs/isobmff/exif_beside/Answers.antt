use Rattle.std.proofs.lemmas.Result.{err_from_is_err_and}
use Rattle.exif_isobmff.proofs.ExifNames.{item_bytes_only, after_header_only}
use Rattle.exif_containers.proofs.IsobmffNames.{fails_named}
use Rattle.exif_containers.proofs.isobmff.exif_beside.Goals as goal

pub returns-in_err-block-clause-named : goal.returns-in_err-block-clause-named
returns-in_err-block-clause-named c =
    let p = err_from_is_err_and c.from_residual.result c.from_residual.ensures.1 in
    rw (p.1, p.2) (fails_named c.in_err-block.field-0.0 _ (item_bytes_only _ _ _) c.in_err-block.ensures.gives)

pub returns-in_err-payload-clause-named : goal.returns-in_err-payload-clause-named
returns-in_err-payload-clause-named c =
    let p = err_from_is_err_and c.from_residual-in_err-payload.result c.from_residual-in_err-payload.ensures.1 in
    rw (p.1, p.2) (fails_named c.in_err-payload.field-0.0 _ (after_header_only _) c.in_err-payload.ensures.gives)
