use Rattle.std.proofs.Common.{rules, ◌≡◌, Err, refl, arith}
use Rattle.exif_files.specs.declared.failure.WriteError.TheVariants.{OtherDevice}
use Rattle.exif_files.proofs.Runs.{if_ok, if_err}
use Rattle.exif_rename.proofs.Away.{err_at, err_on, moved_after, not_moved_after, run_renamed, run_not_renamed}
use Rattle.exif_rename.proofs.moving.move_file.Goals as goal

pub returns-in-Ok-clause-done : goal.returns-in-Ok-clause-done
returns-in-Ok-clause-done g c = run_renamed c.args.from.now c.args.to.now _ _ _ c.in-Ok.ensures.done

pub returns-in-Err-OtherDevice-clause-done : goal.returns-in-Err-OtherDevice-clause-done
returns-in-Err-OtherDevice-clause-done g c =
    let is : c.move_new.result ≡ Err OtherDevice = search rules in
    if_ok _ _ c.copy_and_remove.result c.copy_and_remove.ensures.done (λ moved run.
    moved_after c.args.from.now c.args.to.now moved _ _ _ _ _ _ (err_at _ c.move_new.result OtherDevice is c.move_new.ensures.other_device refl)
    (err_at _ c.move_new.result OtherDevice is c.move_new.ensures.cause (λ e. cc)) run)

pub returns-in-Err-OtherDevice-clause-failed : goal.returns-in-Err-OtherDevice-clause-failed
returns-in-Err-OtherDevice-clause-failed g c =
    let is : c.move_new.result ≡ Err OtherDevice = search rules in
    if_err _ _ c.copy_and_remove.result c.copy_and_remove.ensures.failed (λ e run.
    not_moved_after c.args.from.now c.args.to.now e _ _ _ _ _ _ (err_at _ c.move_new.result OtherDevice is c.move_new.ensures.other_device refl)
    (err_at _ c.move_new.result OtherDevice is c.move_new.ensures.cause (λ e. cc)) run)

pub returns-in-Err : goal.returns-in-Err
returns-in-Err g c =
    let error = c.in-Err.error in
    let is : c.move_new.result ≡ Err error = c.in-Err.is in
    record {
      done = tt;
      failed = run_not_renamed c.args.from.now c.args.to.now _ _ _ _ (λ memory taken crowded. err_at _ c.move_new.result error is c.move_new.ensures.cause taken) (λ both. omega (arith, both)) _ _
          (err_on _ c.move_new.result error is c.move_new.ensures.failed);
      taken = err_at _ c.move_new.result error is c.move_new.ensures.taken;
    }
