use Rattle.std.proofs.lemmas.Result.{err_from_is_err_and}
use Rattle.exif_edit_base.proofs.LeftSteps.{left_fault}
use Rattle.exif_edit_base.proofs.unerased.leftovers.Goals as goal

pub returns-in_err-located : goal.returns-in_err-located
returns-in_err-located c =
    let p = err_from_is_err_and c.from_residual.result c.from_residual.ensures.1 in
    rw p.1 (left_fault c.in_err-located.field-0.0 c.args.bytes.now p.0 c.in_err-located.ensures.reads
    p.2)
