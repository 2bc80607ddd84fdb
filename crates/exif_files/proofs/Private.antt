-- Runs that begin with a file that its owner alone may use.
use Rattle.std.proofs.Common.{◌≡◌, List, [], ◌∷◌, ◌∙◌, ap, subst, inl, inr, ℕ, Result, Ok, Err}
use Rattle.exif_files.specs.States.{State, Run}
use Rattle.exif_files.specs.Names.{IsHidden}
use Rattle.exif_files.specs.Steps.{BeginsWith, Creates, CreatesPrivate, Does, Moves}
use Rattle.exif_files.specs.Changed.{AnyState}
use Rattle.exif_files.proofs.Runs.{run_stay, run_step, run_weaker}

pub begins_same : (old new : List State) → new ≡ old → BeginsWith CreatesPrivate old new
begins_same old new same = λ s past e. inl same

-- a first step, and whatever came then
pub begins : {P Q : State → State → Type 0} (name : List ℕ) (old mid new : List State) → IsHidden name
    → Moves (Creates name 384) old mid → Run P Q mid new → BeginsWith CreatesPrivate old new
begins name [] mid new hidden m run = λ s past e. cc
begins name (x ∷ rest) mid new hidden (t, made, is) run = λ s past e.
    let head : x ≡ s = cc in
    let tail : rest ≡ past = cc in
    let made' : Creates name 384 s t = subst (λ (y : State). Creates name 384 y t) head made in
    let is' : mid ≡ t ∷ s ∷ past = is ∙ ap (λ (xs : List State). t ∷ xs) e in
    let r = run.told t (s ∷ past) is' in
    inr (t, r.since, (name, hidden, made'), r.is ∙ r.begun)

-- a run of which nothing is said
pub any_run : {P Q : State → State → Type 0} {a b : List State} → Run P Q a b → Run AnyState AnyState a b
any_run run = run_weaker run (λ s t h. tt) (λ s t h. tt)

-- and one call more
pub any_step : {a b c : List State} (step : State → State → Type 0) → Run AnyState AnyState a b → Moves step b c → Run AnyState AnyState a c
any_step step run m = run_step step run m (λ s t h. tt) (λ s t u h k. tt) (λ s t u h k. tt)

pub any_does : {T E : Type 0} {a b c : List State} (step : State → State → Type 0) (f f' : ℕ) (result : Result T E) → Run AnyState AnyState a b → Does step b c f f' result → Run AnyState AnyState a c
any_does step f f' (Ok x) run does = any_step step run does.done
any_does step f f' (Err e) run does = run_stay run does.failed
