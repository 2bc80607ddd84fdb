use Rattle.std.proofs.Common.{rules, ◌≡◌, ◌≢◌, arith, subst, ℕ}
use Rattle.exif_files.specs.Steps.{Links}
use Rattle.exif_files.specs.Written.{FailedTwice}
use Rattle.exif_files.proofs.Runs.{ok_at, on_ok, on_err}
use Rattle.exif_files.proofs.Moving.{moves_if_free}
use Rattle.exif_files.proofs.NameSteps.{run_named_or_gone, run_not_named, on_renamed, on_not_renamed, failed_since}
use Rattle.exif_files.proofs.taking.move_new.Goals as goal

pub returns-in-Ok-true-clause-done : goal.returns-in-Ok-true-clause-done
returns-in-Ok-true-clause-done g c =
    let source = c.args.source.now in
    let name = c.args.name.now in
    let apart : source ≢ name = search rules in
    let linked = moves_if_free name (Links source name) _ _ c.in-Ok-true.field-0 c.in-Ok-true.field-0-test (ok_at _ c.link.result _ c.in-Ok-true.is c.link.ensures.does.done) in
    on_ok _ _ c.remove_old.result c.remove_old.ensures.done (λ m. run_named_or_gone source name _ apart _ _ _ linked m)

pub returns-in-Ok-true-clause-failed : goal.returns-in-Ok-true-clause-failed
returns-in-Ok-true-clause-failed g c =
    let source = c.args.source.now in
    let name = c.args.name.now in
    let linked = moves_if_free name (Links source name) _ _ c.in-Ok-true.field-0 c.in-Ok-true.field-0-test (ok_at _ c.link.result _ c.in-Ok-true.is c.link.ensures.does.done) in
    let count : g.F.FileSystem.failures c.link.new.self ≡ g.F.FileSystem.failures c.args.files.now = search rules in
    let P : ℕ → Type 0 = λ n. FailedTwice n (g.F.FileSystem.failures c.remove_old.new.files) in
    on_err _ _ c.remove_old.result c.remove_old.ensures.failed (λ m. run_not_named source name _ _ _ (subst P count) _ _ _ linked m)

pub returns-in-Err-2-clause-done : goal.returns-in-Err-2-clause-done
returns-in-Err-2-clause-done g c =
    on_renamed c.args.source.now c.args.name.now _ c.move_onto_holder.result _ _ _ c.in-Err.ensures.does.failed
    (on_ok _ _ c.move_onto_holder.result c.move_onto_holder.ensures.count (λ e. omega (arith, e, c.in-Err.ensures.does.count)))
    c.move_onto_holder.ensures.done

pub returns-in-Err-2-clause-failed : goal.returns-in-Err-2-clause-failed
returns-in-Err-2-clause-failed g c =
    on_not_renamed c.args.source.now c.args.name.now _ c.move_onto_holder.result _ _ _ _ _ c.in-Err.ensures.does.failed
    (on_err _ _ c.move_onto_holder.result c.move_onto_holder.ensures.rises (failed_since _ _ _ c.in-Err.ensures.does.count))
    (λ both. omega (arith, both, c.in-Err.ensures.does.count)) c.move_onto_holder.ensures.failed
