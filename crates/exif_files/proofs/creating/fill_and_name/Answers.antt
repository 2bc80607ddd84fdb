use Rattle.std.proofs.Common.{◌≢◌, ◌∙◌, sym, inl, inr}
use Rattle.exif_files.specs.NewNames.{IsThere}
use Rattle.exif_files.proofs.Runs.{run_stay, run_weaker, at_err, if_err, now_back}
use Rattle.exif_files.proofs.NameSteps.{moved_since, not_moved_since}
use Rattle.exif_files.proofs.NewFiles.{run_ready_new, run_only_beside, run_put_new, run_not_put_new}
use Rattle.exif_files.proofs.creating.fill_and_name.Goals as goal

pub returns-in_err-append_all-clause-failed : goal.returns-in_err-append_all-clause-failed
returns-in_err-append_all-clause-failed g c =
    let apart : c.args.name.now ≢ c.args.beside.now = λ e. c.requires.apart (sym e) in
    at_err _ c.from_residual.result (run_only_beside c.args.name.now c.args.beside.now c.args.bytes.now _ apart _ _ _ _ c.in_err-append_all.ensures.failed)

pub returns-in_err-sync-clause-failed : goal.returns-in_err-sync-clause-failed
returns-in_err-sync-clause-failed g c =
    let apart : c.args.name.now ≢ c.args.beside.now = λ e. c.requires.apart (sym e) in
    at_err _ c.from_residual-in_err-sync.result (run_only_beside c.args.name.now c.args.beside.now c.args.bytes.now _ apart _ _ _ _
    (run_weaker (run_stay c.in_ok-append_all.ensures.done c.in_err-sync.ensures.does.failed) (λ s t h. h) (λ s t h. h.others)))

pub returns-clause-done : goal.returns-clause-done
returns-clause-done g c =
    let name = c.args.name.now in
    let beside = c.args.beside.now in
    let apart : name ≢ beside = λ e. c.requires.apart (sym e) in
    let ready = run_ready_new name beside c.args.bytes.now _ apart _ _ _ c.requires.empty c.in_ok-append_all.ensures.done c.in_ok-sync.ensures.does.done in
    let e = c.in_ok-sync.ensures.does.count ∙ c.in_ok-append_all.ensures.count in
    let k = g.F.FileSystem.failures c.move_new.new.files in
    run_put_new name beside c.args.bytes.now _ apart _ c.move_new.result _ _ _ ready
    (moved_since c.move_new.result beside name _ _ _ _ k e c.move_new.ensures.done)

pub returns-clause-failed : goal.returns-clause-failed
returns-clause-failed g c =
    let name = c.args.name.now in
    let beside = c.args.beside.now in
    let apart : name ≢ beside = λ e. c.requires.apart (sym e) in
    let ready = run_ready_new name beside c.args.bytes.now _ apart _ _ _ c.requires.empty c.in_ok-append_all.ensures.done c.in_ok-sync.ensures.does.done in
    let e = c.in_ok-sync.ensures.does.count ∙ c.in_ok-append_all.ensures.count in
    let k = g.F.FileSystem.failures c.move_new.new.files in
    run_not_put_new name beside c.args.bytes.now _ apart _ c.move_new.result _ _ _ _ ready
    (not_moved_since c.move_new.result beside name _ _ _ _ k e c.move_new.ensures.failed)

pub returns-clause-taken : goal.returns-clause-taken
returns-clause-taken g c =
    let name = c.args.name.now in
    let beside = c.args.beside.now in
    let apart : name ≢ beside = λ e. c.requires.apart (sym e) in
    let ready = run_ready_new name beside c.args.bytes.now _ apart _ _ _ c.requires.empty c.in_ok-append_all.ensures.done c.in_ok-sync.ensures.does.done in
    if_err _ _ c.move_new.result c.move_new.ensures.taken (λ e taken is. elim (taken is) [
      | inl same ↦ absurd (c.requires.apart same)
      | inr now ↦ now_back (IsThere name) (IsThere name) _ _ ready (λ s t x there none. there (x.others name apart ∙ none)) now
    ])
