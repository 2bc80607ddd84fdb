-- Steps one after the other.
use Rattle.std.proofs.Common.{◌≡◌, ◌<◌, ◌≤◌, ◌+◌, ◌-◌, ℕ, suc, Option, Some, None, ap, sym, ◌∙◌, arith}
use Rattle.exif_inventory_heif.specs.Loops.{and_then, repeated}

one_less : (n i : ℕ) → i < n → n - i ≡ suc (n - (i + 1))
one_less n i h = omega arith

first_step : {S : Type 0} (step : S → Option S) (n i : ℕ) (s : S) → i < n
    → repeated step (n - i) s ≡ and_then (step s) (repeated step (n - (i + 1)))
unfolding repeated
first_step step n i s h = ap (λ k. repeated step k s) (one_less n i h)

-- a step
pub step_on : {S : Type 0} (step : S → Option S) (n i : ℕ) (s t : S) → i < n → Some t ≡ step s
    → repeated step (n - i) s ≡ repeated step (n - (i + 1)) t
step_on step n i s t h e =
    first_step step n i s h ∙ ap (λ o. and_then o (repeated step (n - (i + 1)))) (sym e)

-- a step that fails
pub step_fails : {S : Type 0} (step : S → Option S) (n i : ℕ) (s : S) → i < n → None ≡ step s
    → repeated step (n - i) s ≡ None
step_fails step n i s h e =
    first_step step n i s h ∙ ap (λ o. and_then o (repeated step (n - (i + 1)))) (sym e)

-- no step is left
pub steps_over : {S : Type 0} (step : S → Option S) (n i : ℕ) (s : S) → n ≤ i
    → repeated step (n - i) s ≡ Some s
unfolding repeated
steps_over step n i s h =
    let none : n - i ≡ 0 = omega arith in
    ap (λ k. repeated step k s) none
