use Rattle.std.proofs.Common.{List, ℕ, subst, sym}
use Rattle.exif_files.specs.States.{Now}
use Rattle.exif_files.proofs.Runs.{on_ok}
use Rattle.exif_rename.proofs.Copying.{HasFile, if_err_both, run_made, run_not_made}
use Rattle.exif_rename.proofs.moving.make_copy.Goals as goal

pub returns-clause-done : goal.returns-clause-done
returns-clause-done g c =
    let a = g.F.FileSystem.states c.args.files.now in
    let P : List ℕ → Type 0 = λ bytes. Now a (HasFile c.args.from.now bytes) in
    let was = subst P (sym c.as_slice.ensures.value) c.in_ok-bytes.ensures.bytes in
    on_ok _ _ c.create_new.result c.create_new.ensures.done
    (run_made c.args.from.now c.args.to.now c.as_slice.result.now 438 a _ _ _ _ _ c.in_ok-bytes.ensures.same c.in_ok-bytes.ensures.count was)

pub returns-clause-failed : goal.returns-clause-failed
returns-clause-failed g c =
    let a = g.F.FileSystem.states c.args.files.now in
    let P : List ℕ → Type 0 = λ bytes. Now a (HasFile c.args.from.now bytes) in
    let was = subst P (sym c.as_slice.ensures.value) c.in_ok-bytes.ensures.bytes in
    if_err_both _ _ _ c.create_new.result c.create_new.ensures.failed c.create_new.ensures.cause
    (λ e run cause. run_not_made c.args.from.now c.args.to.now c.as_slice.result.now 438 e a _ _ _ _ _ c.in_ok-bytes.ensures.same c.in_ok-bytes.ensures.count was run cause)
