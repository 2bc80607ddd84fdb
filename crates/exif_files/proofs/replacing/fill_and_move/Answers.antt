use Rattle.std.proofs.Common.{◌≢◌, ◌∙◌, sym, ap, subst, inl, List, ℕ, Some}
use Rattle.exif_files.specs.Names.{name_if}
use Rattle.exif_files.specs.Parts.{FailsOrNot}
use Rattle.exif_files.specs.Written.{IsTakenIf}
use Rattle.exif_files.proofs.Runs.{run_then, run_stay, run_weaker, at_err, on_err, if_err, now_back}
use Rattle.exif_files.proofs.Filling.{elsewhere_then}
use Rattle.exif_files.proofs.Counts.{fails_since}
use Rattle.exif_files.proofs.Moving.{ready_there, run_filled, run_ready, run_synced, putting_before, put_done, put_failed}
use Rattle.exif_files.proofs.replacing.fill_and_move.Goals as goal

pub returns-in_err-append_all-clause-failed : goal.returns-in_err-append_all-clause-failed
returns-in_err-append_all-clause-failed g c =
    at_err _ c.from_residual.result (run_weaker c.in_err-append_all.ensures.failed
    (putting_before c.args.name.now c.args.beside.now (name_if c.args.backup) c.args.bytes.now c.args.times _ (λ e. c.requires.apart (sym e))) (λ s t h. inl h))

pub returns-in_err-copy_access-clause-failed : goal.returns-in_err-copy_access-clause-failed
returns-in_err-copy_access-clause-failed g c =
    let apart : c.args.name.now ≢ c.args.beside.now = λ e. c.requires.apart (sym e) in
    let beside = c.args.beside.now in
    let before = putting_before c.args.name.now beside (name_if c.args.backup) c.args.bytes.now c.args.times in
    let filled = run_filled beside c.args.bytes.now _ _ c.requires.empty c.in_ok-append_all.ensures.done in
    at_err _ c.from_residual-in_err-copy_access.result (run_then filled c.in_err-copy_access.ensures.failed
    (λ s t h. before _ apart s t h) (λ s t u x y. before _ apart s u (elsewhere_then beside s t u x.others y)) (λ s t u x y. inl (elsewhere_then beside s t u x.others y)))

pub returns-in_err-sync-clause-failed : goal.returns-in_err-sync-clause-failed
returns-in_err-sync-clause-failed g c =
    let apart : c.args.name.now ≢ c.args.beside.now = λ e. c.requires.apart (sym e) in
    let filled = run_filled c.args.beside.now c.args.bytes.now _ _ c.requires.empty c.in_ok-append_all.ensures.done in
    let ready = run_ready c.args.name.now c.args.beside.now c.args.bytes.now c.args.times _ _ _ _ apart filled c.in_ok-copy_access.ensures.done in
    at_err _ c.from_residual-in_err-sync.result (run_weaker (run_stay ready c.in_err-sync.ensures.does.failed)
    (putting_before c.args.name.now c.args.beside.now (name_if c.args.backup) c.args.bytes.now c.args.times _ apart) (λ s t h. inl h.others))

pub returns-clause-done : goal.returns-clause-done
returns-clause-done g c =
    let apart : c.args.name.now ≢ c.args.beside.now = λ e. c.requires.apart (sym e) in
    let filled = run_filled c.args.beside.now c.args.bytes.now _ _ c.requires.empty c.in_ok-append_all.ensures.done in
    let ready = run_ready c.args.name.now c.args.beside.now c.args.bytes.now c.args.times _ _ _ _ apart filled c.in_ok-copy_access.ensures.done in
    let synced = run_synced c.args.name.now c.args.beside.now c.args.bytes.now c.args.times _ _ _ _ ready c.in_ok-sync.ensures.does.done in
    put_done c.link_and_rename.result c.args.name.now c.args.beside.now (name_if c.args.backup) c.args.bytes.now c.args.times _ _ _ _ _ _ _ apart c.requires.backup_beside
    c.in_ok-append_all.ensures.count synced c.link_and_rename.ensures.done _ c.in_ok-sync.ensures.does.count c.link_and_rename.ensures.count

pub returns-clause-failed : goal.returns-clause-failed
returns-clause-failed g c =
    let apart : c.args.name.now ≢ c.args.beside.now = λ e. c.requires.apart (sym e) in
    let filled = run_filled c.args.beside.now c.args.bytes.now _ _ c.requires.empty c.in_ok-append_all.ensures.done in
    let ready = run_ready c.args.name.now c.args.beside.now c.args.bytes.now c.args.times _ _ _ _ apart filled c.in_ok-copy_access.ensures.done in
    let synced = run_synced c.args.name.now c.args.beside.now c.args.bytes.now c.args.times _ _ _ _ ready c.in_ok-sync.ensures.does.done in
    put_failed c.link_and_rename.result c.args.name.now c.args.beside.now (name_if c.args.backup) c.args.bytes.now c.args.times _ _ _ _ _ _ _ apart
    c.in_ok-append_all.ensures.count c.in_ok-copy_access.ensures.count synced _ c.in_ok-sync.ensures.does.count c.link_and_rename.ensures.failed c.link_and_rename.ensures.rises

pub returns-clause-taken : goal.returns-clause-taken
returns-clause-taken g c =
    let apart : c.args.name.now ≢ c.args.beside.now = λ e. c.requires.apart (sym e) in
    let backup = name_if c.args.backup in
    let filled = run_filled c.args.beside.now c.args.bytes.now _ _ c.requires.empty c.in_ok-append_all.ensures.done in
    let ready = run_ready c.args.name.now c.args.beside.now c.args.bytes.now c.args.times _ _ _ _ apart filled c.in_ok-copy_access.ensures.done in
    let synced = run_synced c.args.name.now c.args.beside.now c.args.bytes.now c.args.times _ _ _ _ ready c.in_ok-sync.ensures.does.done in
    if_err _ _ c.link_and_rename.result c.link_and_rename.ensures.taken (λ e taken is. now_back (IsTakenIf backup) (IsTakenIf backup) _ _ synced
    (λ s t x now b named none. now b named (x.others b (λ same. c.requires.backup_beside (named ∙ ap (λ (n : List ℕ). Some n) same)) ∙ none)) (taken is))

pub returns-clause-rises : goal.returns-clause-rises
returns-clause-rises g c =
    on_err _ _ c.link_and_rename.result c.link_and_rename.ensures.rises (λ rises. fails_since _ _ _ _ c.in_ok-append_all.ensures.count c.in_ok-copy_access.ensures.count (let P : ℕ → Type 0 = λ n. FailsOrNot n (g.F.FileSystem.failures c.link_and_rename.new.files) in subst P c.in_ok-sync.ensures.does.count rises))

pub link_and_rename-requires-clause-there : goal.link_and_rename-requires-clause-there
link_and_rename-requires-clause-there g c =
    let apart : c.args.name.now ≢ c.args.beside.now = λ e. c.requires.apart (sym e) in
    let filled = run_filled c.args.beside.now c.args.bytes.now _ _ c.requires.empty c.in_ok-append_all.ensures.done in
    let ready = run_ready c.args.name.now c.args.beside.now c.args.bytes.now c.args.times _ _ _ _ apart filled c.in_ok-copy_access.ensures.done in
    ready_there c.args.name.now c.args.beside.now c.args.bytes.now c.args.times _ _ _ apart
    (run_synced c.args.name.now c.args.beside.now c.args.bytes.now c.args.times _ _ _ _ ready c.in_ok-sync.ensures.does.done)
