use Rattle.std.proofs.Common.{arith}
use Rattle.exif_files.proofs.Counts.{removal_failed, more_after, twice_then}
use Rattle.exif_files.proofs.Runs.{if_err_any}
use Rattle.exif_files.proofs.Whole.{created_as, hidden_as, other_as}
use Rattle.exif_files.proofs.NewFiles.{run_new_for_good, run_new_unsettled, run_not_created}
use Rattle.exif_files.proofs.creating.create_new.Goals as goal

pub returns-in_err-settle-in-Ok-clause-failed : goal.returns-in_err-settle-in-Ok-clause-failed
returns-in_err-settle-in-Ok-clause-failed g c =
    let beside = c.as_str-beside.result.now in
    let value = c.as_str-beside.ensures.value in
    if_err_any _ c.from_residual-in_err-settle-in-Ok.result (λ e. run_new_unsettled c.args.name.now beside c.args.bytes.now _ (other_as c.args.name.now beside _ value c.in_ok-beside.ensures.apart) _ _
    (λ more. omega (arith, more, c.in_ok-beside.ensures.calm, c.in_err-settle-in-Ok.ensures.does.count))
    (hidden_as beside _ value c.in_ok-beside.ensures.hidden) _ _ _ _ _ (created_as beside _ value _ _ _ c.in_ok-beside.ensures.created) c.in-Ok.ensures.done c.in_err-settle-in-Ok.ensures.does.failed)

pub returns-in-Ok-clause-done : goal.returns-in-Ok-clause-done
returns-in-Ok-clause-done g c =
    let beside = c.as_str-beside.result.now in
    let value = c.as_str-beside.ensures.value in
    run_new_for_good c.args.name.now beside c.args.bytes.now _ (other_as c.args.name.now beside _ value c.in_ok-beside.ensures.apart) _ _
    (λ more. omega (arith, more, c.in_ok-beside.ensures.calm, c.in_ok-settle-in-Ok.ensures.does.count))
    (hidden_as beside _ value c.in_ok-beside.ensures.hidden) _ _ _ _ (created_as beside _ value _ _ _ c.in_ok-beside.ensures.created) c.in-Ok.ensures.done c.in_ok-settle-in-Ok.ensures.does.done

pub returns-clause-failed : goal.returns-clause-failed
returns-clause-failed g c =
    let beside = c.as_str-beside.result.now in
    let value = c.as_str-beside.ensures.value in
    run_not_created c.args.name.now beside c.args.bytes.now _ (other_as c.args.name.now beside _ value c.in_ok-beside.ensures.apart) _ _
    (more_after c.remove.result _ _ _ _ c.in_ok-beside.ensures.calm c.remove.ensures.does.count)
    (hidden_as beside _ value c.in_ok-beside.ensures.hidden) c.remove.result _ _ (twice_then c.remove.result c.in-Err.error _ _ _ _ c.in_ok-beside.ensures.calm c.remove.ensures.does.count)
    _ _ _ _ _ _ (created_as beside _ value _ _ _ c.in_ok-beside.ensures.created) c.in-Err.ensures.failed c.remove.ensures.does
    (removal_failed c.remove.result c.in-Err.error _ _ _ _ c.in_ok-beside.ensures.calm c.in-Err.ensures.rises c.in-Err.ensures.cause c.remove.ensures.does.count)
