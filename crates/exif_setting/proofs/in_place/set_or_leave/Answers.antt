use Rattle.std.proofs.lemmas.Result.{err_from_is_err_and}
use Rattle.exif_setting.proofs.Refused.{fits_stop}
use Rattle.exif_setting.proofs.in_place.set_or_leave.Goals as goal

pub returns-in_err-fit_one : goal.returns-in_err-fit_one
returns-in_err-fit_one c =
    let p = err_from_is_err_and c.from_residual.result c.from_residual.ensures.1 in
    let s = c.in-Some.ensures.steps.0 in
    rw (p.1, p.2) (fits_stop _ _ c.in-Some.field (c.loop-field.file, c.loop-field.left.items) _ c.in_err-fit_one.field-0.0 s c.loop-field.invariant c.in_err-fit_one.ensures)
