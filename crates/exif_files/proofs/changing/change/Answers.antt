use Rattle.std.proofs.Common.{rules, ◌≡◌, List, ℕ, sym, subst, ◌∙◌, inr}
use Rattle.exif_files.specs.Names.{backup_if}
use Rattle.exif_files.specs.Written.{FailedToRemove}
use Rattle.exif_files.proofs.Edits.{not_same, run_changed, run_not_changed, run_rewritten, run_same}
use Rattle.exif_files.proofs.changing.change.Goals as goal

pub returns-then-eq-clause-done : goal.returns-then-eq-clause-done
returns-then-eq-clause-done g c =
    let made : c.in_ok-new.field-0.file.items ≡ c.in_ok-new.new.items = search rules in
    let P : List ℕ → Type 0 = λ x. g.E.Edit.answer c.args.edit.now x c.in_ok-new.new.items in
    let Q : List ℕ → Type 0 = λ x. g.E.Edit.answer c.args.edit.now c.as_slice.result.now x in
    let same : c.in_ok-new.new.items ≡ c.in-Ok.old.items = search rules in
    run_same (g.E.Edit.answer c.args.edit.now) c.args.name.now (backup_if c.args.keeping.backup c.args.name.now) c.args.keeping.times c.in-Ok.old.items c.in_ok-new.new.items
    (subst P c.as_slice.ensures.value (subst Q made c.in_ok-new.ensures.answered))
    _ _ _ c.in-Ok.ensures.bytes c.in-Ok.ensures.same same

pub returns-in-Ok-write_over-clause-done : goal.returns-in-Ok-write_over-clause-done
returns-in-Ok-write_over-clause-done g c =
    let made : c.in_ok-new.field-0.file.items ≡ c.in_ok-new.new.items = search rules in
    let P : List ℕ → Type 0 = λ x. g.E.Edit.answer c.args.edit.now x c.in_ok-new.new.items in
    let Q : List ℕ → Type 0 = λ x. g.E.Edit.answer c.args.edit.now c.as_slice.result.now x in
    run_changed (g.E.Edit.answer c.args.edit.now) c.args.name.now (backup_if c.args.keeping.backup c.args.name.now) c.args.keeping.times c.in-Ok.old.items c.in_ok-new.new.items
    (subst P c.as_slice.ensures.value (subst Q made c.in_ok-new.ensures.answered))
    c.as_slice-4.result.now _ _ _ _ _ _ c.in-Ok.ensures.bytes c.in-Ok.ensures.same (c.as_slice-4.ensures.value ∙ made) c.in-Ok.ensures.count c.in-Ok-write_over.ensures.done

pub returns-clause-failed : goal.returns-clause-failed
returns-clause-failed g c =
    let made : c.in_ok-new.field-0.file.items ≡ c.in_ok-new.new.items = search rules in
    let P : List ℕ → Type 0 = λ x. g.E.Edit.answer c.args.edit.now x c.in_ok-new.new.items in
    let Q : List ℕ → Type 0 = λ x. g.E.Edit.answer c.args.edit.now c.as_slice.result.now x in
    run_not_changed (g.E.Edit.answer c.args.edit.now) c.args.name.now (backup_if c.args.keeping.backup c.args.name.now) c.args.keeping.times c.in-Ok.old.items c.in_ok-new.new.items
    (subst P c.as_slice.ensures.value (subst Q made c.in_ok-new.ensures.answered))
    (λ n. FailedToRemove c.in-Err-write_over.error n (g.F.FileSystem.failures c.write_over.new.files))
    c.as_slice-4.result.now _ _ _ _ _ _ c.in-Ok.ensures.bytes c.in-Ok.ensures.same (c.as_slice-4.ensures.value ∙ made) c.in-Ok.ensures.count c.in-Err-write_over.ensures.failed

pub returns-in-Ok-write_over-clause-written : goal.returns-in-Ok-write_over-clause-written
returns-in-Ok-write_over-clause-written g c =
    let differ : c.as_slice-4.result.now ≡ c.in-Ok.old.items → ⊥ = λ same. not_same c.as_slice-2.result.now c.as_slice-3.result.now c.if-eq.ensures
    (c.as_slice-2.ensures.value ∙ (sym c.as_slice-4.ensures.value ∙ (same ∙ sym c.as_slice-3.ensures.value))) in
    inr (run_rewritten c.args.name.now (backup_if c.args.keeping.backup c.args.name.now) c.args.keeping.times _ c.in-Ok.old.items c.as_slice-4.result.now differ
    _ _ _ c.in-Ok.ensures.bytes c.in-Ok.ensures.same c.in-Ok-write_over.ensures.done)
