use Rattle.std.proofs.Common.{sym, arith}
use Rattle.exif_files.proofs.Runs.{if_err_any}
use Rattle.exif_rename.proofs.Away.{if_err_and, run_away, run_away_settled, run_away_unsettled, run_both, run_no_copy}
use Rattle.exif_rename.proofs.moving.copy_and_remove.Goals as goal

pub returns-clause-done : goal.returns-clause-done
returns-clause-done g c =
    run_away_settled c.args.from.now c.args.to.now _ c.in_ok-attributes.attributes _ _ _
    (run_away c.args.from.now c.args.to.now _ _ (λ more. omega (arith, more, c.in_ok-remove.ensures.does.count, c.in_ok-settle.ensures.does.count)) c.in_ok-attributes.attributes _ _ _ c.in_ok-attributes.ensures.done c.in_ok-remove.ensures.does.done)
    c.in_ok-settle.ensures.does.done

pub returns-in_err-settle-clause-failed : goal.returns-in_err-settle-clause-failed
returns-in_err-settle-clause-failed g c =
    if_err_any _ c.from_residual-in_err-settle.result (λ e.
    run_away_unsettled c.args.from.now c.args.to.now _ c.in_ok-attributes.attributes _ _ _ _ _
    (run_away c.args.from.now c.args.to.now _ _ (λ more. omega (arith, more, c.in_ok-remove.ensures.does.count, c.in_err-settle.ensures.does.count)) c.in_ok-attributes.attributes _ _ _ c.in_ok-attributes.ensures.done c.in_ok-remove.ensures.does.done)
    c.in_err-settle.ensures.does.failed)

pub returns-in_err-remove-clause-failed : goal.returns-in_err-remove-clause-failed
returns-in_err-remove-clause-failed g c =
    if_err_any _ c.from_residual-in_err-remove.result (λ e.
    run_both c.args.from.now c.args.to.now _ _ (λ more. omega (arith, more, c.in_err-remove.ensures.does.count)) c.in_ok-attributes.attributes _ _ _ _ _ c.in_ok-attributes.ensures.done c.in_err-remove.ensures.does.failed)

pub returns-in_err-attributes-clause-failed : goal.returns-in_err-attributes-clause-failed
returns-in_err-attributes-clause-failed g c =
    if_err_and _ _ c.from_residual.result c.from_residual.ensures.1
    (λ e same. run_no_copy c.args.from.now c.args.to.now _ c.in_err-attributes.field-0.0 e _ _ _ _ (sym same) c.in_err-attributes.ensures.failed)
