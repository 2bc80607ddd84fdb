use Rattle.std.proofs.Common.{◌≡◌, ◌≢◌, rules, ap, ◌∙◌, List, ℕ, Some, None, true}
use Rattle.exif_files.specs.Names.{name_if}
use Rattle.exif_files.specs.Steps.{Links, count_after}
use Rattle.exif_files.proofs.Moving.{run_rename, run_link_rename, run_link_undone, moves_if_free}
use Rattle.exif_files.proofs.replacing.link_and_rename.Goals as goal

pub returns-in_default-clause-done : goal.returns-in_default-clause-done
returns-in_default-clause-done g c =
    let none : name_if c.args.backup ≡ None = search rules in
    run_rename c.args.name.now c.args.beside.now (name_if c.args.backup) _ _ none c.in_ok-rename.ensures.does.done

pub returns-in-Ok-clause-done : goal.returns-in-Ok-clause-done
returns-in-Ok-clause-done g c =
    let is : name_if c.args.backup ≡ Some c.in-Some.backup.now = ap name_if c.in-Some.is in
    let apart : c.in-Some.backup.now ≢ c.args.name.now = λ e. c.requires.backup_apart (is ∙ ap (λ (n : List ℕ). Some n) e) in
    let apart' : c.in-Some.backup.now ≢ c.args.beside.now = λ e. c.requires.backup_beside (is ∙ ap (λ (n : List ℕ). Some n) e) in
    let did : c.in_ok-link.field-0 ≡ true = search rules in
    run_link_rename c.args.name.now c.args.beside.now (name_if c.args.backup) c.in-Some.backup.now _ _ _ is apart apart'
    (moves_if_free c.in-Some.backup.now (Links c.args.name.now c.in-Some.backup.now) _ _ c.in_ok-link.field-0 did c.in_ok-link.ensures.does.done) c.in-Ok.ensures.does.done

pub returns-in-Err-clause-failed : goal.returns-in-Err-clause-failed
returns-in-Err-clause-failed g c =
    let is : name_if c.args.backup ≡ Some c.in-Some.backup.now = ap name_if c.in-Some.is in
    let apart : c.in-Some.backup.now ≢ c.args.name.now = λ e. c.requires.backup_apart (is ∙ ap (λ (n : List ℕ). Some n) e) in
    let did : c.in_ok-link.field-0 ≡ true = search rules in
    run_link_undone c.remove.result c.args.name.now c.args.beside.now (name_if c.args.backup) c.in-Some.backup.now _ _ _ _ _ _ _ is apart
    (moves_if_free c.in-Some.backup.now (Links c.args.name.now c.in-Some.backup.now) _ _ c.in_ok-link.field-0 did c.in_ok-link.ensures.does.done) c.in-Err.ensures.does.failed
    (c.in-Err.ensures.does.count ∙ ap (count_after true) c.in_ok-link.ensures.does.count) c.remove.ensures.does
