use Rattle.std.proofs.Common.{arith}
use Rattle.exif_files.proofs.Runs.{if_err_any}
use Rattle.exif_rename.proofs.Copying.{run_copied_alike, run_copy_synced, run_copy_settled, run_copy_unsure}
use Rattle.exif_rename.proofs.moving.copy_file.Goals as goal

pub returns-clause-done : goal.returns-clause-done
returns-clause-done g c =
    run_copy_settled c.args.from.now c.args.to.now _ c.copy_attributes-attributes.result _ _ _
    (run_copy_synced c.args.from.now c.args.to.now _ c.copy_attributes-attributes.result _ _ _
    (run_copied_alike c.args.from.now c.args.to.now _ _ (λ more. let kept = c.copy_attributes-attributes.ensures.count (g.F.FileSystem.failures c.args.files.now) more in omega (arith, kept, c.in_ok-sync.ensures.does.count, c.in_ok-settle.ensures.does.count)) c.copy_attributes-attributes.result _ _ _ c.in_ok-make_copy.ensures.done c.copy_attributes-attributes.ensures.alike)
    c.in_ok-sync.ensures.does.done) c.in_ok-settle.ensures.does.done

pub returns-in_err-sync-clause-failed : goal.returns-in_err-sync-clause-failed
returns-in_err-sync-clause-failed g c =
    if_err_any _ c.from_residual-in_err-sync.result (λ e.
    run_copy_unsure _ c.args.from.now c.args.to.now _ c.copy_attributes-attributes.result _ _ _ _ _
    (run_copied_alike c.args.from.now c.args.to.now _ _ (λ more. let kept = c.copy_attributes-attributes.ensures.count (g.F.FileSystem.failures c.args.files.now) more in omega (arith, kept, c.in_err-sync.ensures.does.count)) c.copy_attributes-attributes.result _ _ _ c.in_ok-make_copy.ensures.done c.copy_attributes-attributes.ensures.alike)
    c.in_err-sync.ensures.does.failed)

pub returns-in_err-settle-clause-failed : goal.returns-in_err-settle-clause-failed
returns-in_err-settle-clause-failed g c =
    if_err_any _ c.from_residual-in_err-settle.result (λ e.
    run_copy_unsure _ c.args.from.now c.args.to.now _ c.copy_attributes-attributes.result _ _ _ _ _
    (run_copy_synced c.args.from.now c.args.to.now _ c.copy_attributes-attributes.result _ _ _
    (run_copied_alike c.args.from.now c.args.to.now _ _ (λ more. let kept = c.copy_attributes-attributes.ensures.count (g.F.FileSystem.failures c.args.files.now) more in omega (arith, kept, c.in_ok-sync.ensures.does.count, c.in_err-settle.ensures.does.count)) c.copy_attributes-attributes.result _ _ _ c.in_ok-make_copy.ensures.done c.copy_attributes-attributes.ensures.alike)
    c.in_ok-sync.ensures.does.done) c.in_err-settle.ensures.does.failed)
