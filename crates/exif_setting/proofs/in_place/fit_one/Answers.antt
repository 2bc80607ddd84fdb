use Rattle.std.proofs.lemmas.Result.{err_from_is_err_and}
use Rattle.exif_setting.proofs.Refused.{fit_refused}
use Rattle.exif_setting.proofs.in_place.fit_one.Goals as goal

pub returns-in_err-field : goal.returns-in_err-field
returns-in_err-field c =
    let p = err_from_is_err_and c.from_residual.result c.from_residual.ensures.1 in
    rw (p.1, p.2) (fit_refused c.args.field c.args.file.now c.args.left.now.items c.in_err-field.field-0.0 c.in_err-field.ensures)
