use Rattle.std.proofs.lemmas.Result.{err_from_is_err_and}
use Rattle.std.proofs.Common.{◌≡◌, ◌+◌, ◌-◌, ◌*◌, ℕ, sym, ◌∙◌, ap, refl, arith}
use Rattle.exif_base.specs.Orders.{number_of}
use Rattle.exif_scrub.specs.Directories.{entries_kept, one_more}
use Rattle.exif_scrub.proofs.TiffSteps.{entries_step, entries_stop}
use Rattle.exif_scrub.proofs.tiff.directory.keep_entries.Goals.{then-branch, else-branch}
use Rattle.exif_scrub.proofs.tiff.directory.keep_entries.Goals as goal

pub returns-in_err-keep_entry : goal.returns-in_err-keep_entry
returns-in_err-keep_entry c =
    let a = c.args in
    let l = c.loop-index in
    let p = err_from_is_err_and c.from_residual.result c.from_residual.ensures.1 in
    rw (p.1, p.2) (sym l.invariant.made
    ∙ entries_stop (number_of a.old.order) a.old.bytes.now a.keeps_orientation a.is_nested a.first (a.count - l.index) (a.count - (l.index + 1)) (a.first + 12 * l.index) (a.first + 12 * l.kept) l.kept l.new c.in_err-keep_entry.field-0.0
    (omega (arith, c.loop-index-test.true)) refl (rw (c.from.ensures, c.from-in-loop-index.ensures) at c.in_err-keep_entry.ensures))

pub loop-index-preserved : goal.loop-index-preserved
loop-index-preserved c =
    let a = c.args in
    let l = c.loop-index in
    let step : (n : ℕ) → n ≡ one_more c.in_ok-keep_entry.field-0 l.kept → entries_kept (number_of a.old.order) a.old.bytes.now a.keeps_orientation a.is_nested a.first (a.count - (l.index + 1)) (a.first + 12 * (l.index + 1)) n c.keep_entry.new.new
    ≡ entries_kept (number_of a.old.order) a.old.bytes.now a.keeps_orientation a.is_nested a.first a.count a.first 0 a.new.now =
    λ n is. rw is (sym (entries_step (number_of a.old.order) a.old.bytes.now a.keeps_orientation a.is_nested a.first (a.count - l.index) (a.count - (l.index + 1)) (a.first + 12 * l.index) (a.first + 12 * (l.index + 1)) (a.first + 12 * l.kept) l.kept l.new c.in_ok-keep_entry.field-0 c.keep_entry.new.new
    (omega (arith, c.loop-index-test.true)) (omega arith) refl (rw (c.from.ensures, c.from-in-loop-index.ensures) at c.in_ok-keep_entry.ensures)) ∙ l.invariant.made) in
    elim c.if-branch.branch [
      | then-branch w ↦ record { made = step _ (w.kept-is ∙ ap (λ b. one_more b l.kept) (sym w.if-branch.true)); few = omega (arith, l.invariant.few, w.kept-is) }
      | else-branch w ↦ record { made = step _ (w.kept-is ∙ ap (λ b. one_more b l.kept) (sym w.if-branch.false)); few = omega (arith, l.invariant.few, w.kept-is) }
    ]
