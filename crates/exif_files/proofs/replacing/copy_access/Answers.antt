use Rattle.exif_files.proofs.Runs.{run_stay, run_weaker, at_err, on_err}
use Rattle.exif_files.proofs.Filling.{run_mode, access_done}
use Rattle.exif_files.proofs.replacing.copy_access.Goals as goal

pub returns-in_err-copy_mode-clause-failed : goal.returns-in_err-copy_mode-clause-failed
returns-in_err-copy_mode-clause-failed g c =
    at_err _ c.from_residual.result (run_weaker (run_stay c.try_copy_owner.ensures.done c.in_err-copy_mode.ensures.does.failed) (λ s t h. h) (λ s t h. h.others))

pub returns-clause-done : goal.returns-clause-done
returns-clause-done g c =
    access_done c.copy_times_if.result c.args.source.now c.args.name.now c.args.times _ _ _ _ _ _ _ _ c.requires
    c.try_copy_owner.ensures.done c.in_ok-copy_mode.ensures.does.done c.in_ok-copy_mode.ensures.does.count
    c.copy_times_if.ensures.done c.copy_times_if.ensures.count

pub returns-clause-failed : goal.returns-clause-failed
returns-clause-failed g c =
    let mode = run_mode c.args.source.now c.args.name.now _ _ _ _ c.requires c.try_copy_owner.ensures.done c.in_ok-copy_mode.ensures.does.done in
    on_err _ _ c.copy_times_if.result c.copy_times_if.ensures.failed (λ same. run_weaker (run_stay mode same) (λ s t h. h) (λ s t h. h.others))
