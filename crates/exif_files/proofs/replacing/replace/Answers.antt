use Rattle.exif_files.specs.Names.{name_if}
use Rattle.exif_files.proofs.Private.{any_does, any_run, any_step, begins}
use Rattle.exif_files.proofs.Runs.{if_err_any, run_stay}
use Rattle.exif_files.proofs.Whole.{replaced_for_good, not_settled, not_replaced, created_as, hidden_as, other_as, backup_as}
use Rattle.exif_files.proofs.replacing.replace.Goals as goal

pub returns-in_err-settle-in-Ok-clause-failed : goal.returns-in_err-settle-in-Ok-clause-failed
returns-in_err-settle-in-Ok-clause-failed g c =
    let beside = c.as_str-beside.result.now in
    let backup = name_if c.args.backup in
    let value = c.as_str-beside.ensures.value in
    if_err_any _ c.from_residual-in_err-settle-in-Ok.result (λ e. not_settled c.args.name.now beside backup c.args.bytes.now c.args.times _ _ (other_as c.args.name.now beside _ value c.in_ok-beside.ensures.apart)
    (hidden_as beside _ value c.in_ok-beside.ensures.hidden) (backup_as backup beside _ value c.in_ok-beside.ensures.backup) _ _ _ _ _ _ _ _
    (created_as beside _ value _ _ _ c.in_ok-beside.ensures.created) c.in_ok-beside.ensures.calm c.in-Ok.ensures.count c.in-Ok.ensures.done
    c.in_err-settle-in-Ok.ensures.does.failed c.in_err-settle-in-Ok.ensures.does.count)

pub returns-in-Ok-clause-done : goal.returns-in-Ok-clause-done
returns-in-Ok-clause-done g c =
    let beside = c.as_str-beside.result.now in
    let backup = name_if c.args.backup in
    let value = c.as_str-beside.ensures.value in
    replaced_for_good c.args.name.now beside backup c.args.bytes.now c.args.times _ (other_as c.args.name.now beside _ value c.in_ok-beside.ensures.apart)
    (hidden_as beside _ value c.in_ok-beside.ensures.hidden) (backup_as backup beside _ value c.in_ok-beside.ensures.backup) _ _ _ _ _ _ _ _
    (created_as beside _ value _ _ _ c.in_ok-beside.ensures.created) c.in_ok-beside.ensures.calm c.in-Ok.ensures.done
    c.in_ok-settle-in-Ok.ensures.does.done c.in_ok-settle-in-Ok.ensures.does.count

pub returns-clause-failed : goal.returns-clause-failed
returns-clause-failed g c =
    let beside = c.as_str-beside.result.now in
    let backup = name_if c.args.backup in
    let value = c.as_str-beside.ensures.value in
    not_replaced c.remove.result c.in-Err.error c.args.name.now beside backup c.args.bytes.now c.args.times _ (other_as c.args.name.now beside _ value c.in_ok-beside.ensures.apart)
    (hidden_as beside _ value c.in_ok-beside.ensures.hidden) c.requires _ _ _ _ _ _ _ _
    (created_as beside _ value _ _ _ c.in_ok-beside.ensures.created) c.in_ok-beside.ensures.calm c.in-Err.ensures.rises c.in-Err.ensures.cause c.in-Err.ensures.failed c.remove.ensures.does

pub returns-in_err-settle-in-Ok-clause-private : goal.returns-in_err-settle-in-Ok-clause-private
returns-in_err-settle-in-Ok-clause-private g c =
    begins _ _ _ _ c.in_ok-beside.ensures.hidden c.in_ok-beside.ensures.created
    (run_stay (any_run c.in-Ok.ensures.done) c.in_err-settle-in-Ok.ensures.does.failed)

pub returns-in-Ok-clause-private : goal.returns-in-Ok-clause-private
returns-in-Ok-clause-private g c =
    begins _ _ _ _ c.in_ok-beside.ensures.hidden c.in_ok-beside.ensures.created
    (any_step _ (any_run c.in-Ok.ensures.done) c.in_ok-settle-in-Ok.ensures.does.done)

pub returns-clause-private : goal.returns-clause-private
returns-clause-private g c =
    begins _ _ _ _ c.in_ok-beside.ensures.hidden c.in_ok-beside.ensures.created
    (any_does _ _ _ c.remove.result (any_run c.in-Err.ensures.failed) c.remove.ensures.does)
