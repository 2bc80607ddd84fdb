use Rattle.std.proofs.lemmas.Result.{err_from_is_err_and}
use Rattle.exif_setting.specs.InPlace.{sets_of}
use Rattle.exif_change.specs.Reading.{fields_read}
use Rattle.exif_setting.proofs.Refused.{assigned_refused}
use Rattle.exif_setting.proofs.setting.assigned.Goals as goal

pub returns-in_err-add_assigned : goal.returns-in_err-add_assigned
returns-in_err-add_assigned c =
    let p = err_from_is_err_and c.from_residual.result c.from_residual.ensures.1 in
    rw (p.1, p.2) (assigned_refused (fields_read c.args.exif) c.args.assignments.now c.loop-index.index _ (sets_of c.loop-index.sets) c.in_err-add_assigned.field-0.0
    c.loop-index-test.true c.loop-index.invariant c.in_err-add_assigned.ensures)
