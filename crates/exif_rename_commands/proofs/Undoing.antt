-- What is counted where renames are taken back.
use Rattle.std.proofs.Common.{◌≡◌, ◌∙◌, ℕ, List, [], ◌∷◌, Result, Ok, Err, ap, inl, inr, length, map, refl, subst, sym}
use Rattle.std.specs.Prelude.{IfErr, IfOk, OnOk, Vec, filter}
use Rattle.std.specs.Global.{Global}
use Rattle.std.specs.declared.io.Error as io
use Rattle.std.proofs.lemmas.List.{length-map}
use Rattle.exif_decisions.specs.declared.counts.Counts.{Counts}
use Rattle.exif_decisions.specs.declared.outcome.Outcome.{Outcome}
use Rattle.exif_files.specs.declared.outcome.Status.TheVariants as status
use Rattle.exif_inputs.specs.Pending.{with_counts}
use Rattle.exif_inputs.specs.declared.pending.Pending.{Pending}
use Rattle.exif_rename.specs.Lines.{IsFirstWrong, is_filled, lines_in, step_line}
use Rattle.exif_rename.specs.declared.undo.Step.{Step}
use Rattle.exif_session.specs.declared.session.Stop.{Stop}
use Rattle.exif_rename_commands.specs.Counting.{beside_as, counted_all}
use Rattle.exif_session.specs.Counting.{with_beside}
use Rattle.exif_rename_commands.specs.Moving.{IsSettled}
use Rattle.exif_rename_commands.specs.Undone.{AreCounted, IsUndone}

-- files are not counted beside themselves
beside_kept : (outcomes : List Outcome) (counts : Counts) → (counted_all outcomes counts).beside ≡ counts.beside
beside_kept [] counts = refl
beside_kept (outcome ∷ outcomes) counts = beside_kept outcomes counts

-- the steps, and then what the disk may lack
pub counted_by : (steps : ℕ) (outcomes : List Outcome) (old between new : Pending) → length outcomes ≡ steps
    → between ≡ with_counts (counted_all outcomes old.counts) old → IsSettled between.counts.beside new.counts.beside
    → new ≡ beside_as new.counts.beside between → AreCounted steps old new
counted_by steps outcomes old between new each was settled rest = record {
  outcomes = outcomes;
  each = each;
  settled = subst (λ b. IsSettled b new.counts.beside) (ap (λ (p : Pending). p.counts.beside) was ∙ beside_kept outcomes old.counts) settled;
  counted = rest ∙ ap (λ p. beside_as new.counts.beside p) was;
}

-- by the steps that were read, or the number of a line that says none
pub undone_by : (text : List ℕ) (steps : Result (Vec Step Global) ℕ) (r : Result (Unit {0}) Stop) (old new : Pending)
    → IfOk steps (λ s. map step_line s.items ≡ filter is_filled (lines_in text)) → IfErr steps (IsFirstWrong (lines_in text))
    → IfErr steps (λ number. OnOk r (new ≡ with_beside status.Refused old)) → IfOk steps (λ s. OnOk r (AreCounted (length s.items) old new))
    → OnOk r (IsUndone text old new)
undone_by text steps (Err stop) old new lines first wrong right = tt
undone_by text (Err number) (Ok x) old new lines first wrong right = inl (number, first, wrong)
undone_by text (Ok steps) (Ok x) old new lines first wrong right =
    inr (subst (λ n. AreCounted n old new) (sym (length-map steps.items step_line) ∙ ap length lines) right)

pub if_done : (r : Result (Unit {0}) Stop) (P : Type 0) → P → OnOk r P
if_done (Ok x) P p = p
if_done (Err stop) P p = tt

-- with the bytes that were read
pub undone_in : (lines : Result (Vec ℕ Global) io.Error) (text : Vec ℕ Global) (bytes : List ℕ) (r : Result (Unit {0}) Stop) (old new : Pending)
    → lines ≡ Ok text → bytes ≡ text.items → OnOk r (IsUndone bytes old new) → IfOk lines (λ t. OnOk r (IsUndone t.items old new))
undone_in lines text bytes r old new e f h =
    let of_text : OnOk r (IsUndone text.items old new) = subst (λ b. OnOk r (IsUndone b old new)) f h in
    subst (λ (l : Result (Vec ℕ Global) io.Error). IfOk l (λ t. OnOk r (IsUndone t.items old new))) (sym e) of_text
