-- What the calls make of the states by which a file gets a name that nothing has.
use Rattle.std.proofs.Common.{◌≡◌, ◌≢◌, ◌⊎◌, ◌≤◌, ℕ, List, [], true, subst, None, sym, ap, refl, ◌∙◌, inl, inr, Result, Ok, Err, OnOk, OnErr, arith}
use Rattle.std.specs.Prelude.{⊤}
use Rattle.exif_files.specs.States.{State, Holds, Elsewhere, IsUnchanged, Now, Run}
use Rattle.exif_files.specs.Steps.{Creates, Links, Renames, Removes, Moves, Does, count_after}
use Rattle.exif_files.specs.Written.{FailedTwice}
use Rattle.exif_files.specs.Parts.{FailsOrNot}
use Rattle.exif_files.specs.NewNames.{IsGone, IsThere, IsNamedTwice, IsRenamed, IsRenaming, IsNotRenamed}
use Rattle.exif_files.proofs.Runs.{run_begin, run_none, run_one, run_then, run_step, run_stay, run_weaker, moves_now, now_any}
use Rattle.exif_files.proofs.Counts.{same_or_other}

module _ (from to : List ℕ) (failed : Type 0) where
  named_twice : (s t : State) → Links from to s t → IsNamedTwice from to failed s t
  named_twice s t x = record { free = x.free; file = inl x.file; others = x.others }

  -- the only other name is removed again
  removed_again : (s t u : State) → s.at to ≡ None → Elsewhere to s t → Removes to t u → IsUnchanged s u
  removed_again s t u free others y n = elim (same_or_other n to) [
    | inl e ↦ ap u.at e ∙ y.gone ∙ sym free ∙ ap s.at (sym e)
    | inr ne ↦ y.others n ne ∙ others n ne
  ]

  run_linked : (a b : List State) → Moves (Links from to) a b → Run (IsRenaming from to failed) (Links from to) a b
  run_linked a b m = run_one (Links from to) m (λ s t x. inr (inl (named_twice s t x))) (λ s t x. x)

  renamed_by_link : (apart : from ≢ to) (s t u : State) → Links from to s t → Removes from t u → IsRenamed from to s u
  renamed_by_link apart s t u x y = record {
    free = x.free;
    file = y.others to (λ e. apart (sym e)) ∙ x.file;
    gone = y.gone;
    others = λ n ne ne'. y.others n ne ∙ x.others n ne';
  }

  pub run_named : (apart : from ≢ to) (a b c : List State) → Moves (Links from to) a b → Moves (Removes from) b c → Run (IsRenaming from to failed) (IsRenamed from to) a c
  run_named apart a b c m m' =
      run_step (Removes from) (run_linked a b m) m' (λ s t x. x)
      (λ s t u x y. inr (inr (renamed_by_link apart s t u x y))) (renamed_by_link apart)

  -- the new name was given, and the old one is gone
  given_and_gone : (s t u : State) → Links from to s t → (u ≡ t) × IsGone from t → IsRenamed from to s u
  given_and_gone s t u x (same, gone) =
      let P : State → Type 0 = λ w. IsRenamed from to s w in
      subst P (sym same) (record { free = x.free; file = x.file; gone = gone; others = λ n ne ne'. x.others n ne' })

  given_still : (s t u : State) → Links from to s t → u ≡ t → IsRenaming from to failed s u
  given_still s t u x same =
      let P : State → Type 0 = λ w. IsRenaming from to failed s w in
      subst P (sym same) (inr (inl (named_twice s t x)))

  -- the old name was removed, or is gone
  pub run_named_or_gone : (apart : from ≢ to) (a b c : List State) → Moves (Links from to) a b → Moves (Removes from) b c ⊎ ((c ≡ b) × Now b (IsGone from)) → Run (IsRenaming from to failed) (IsRenamed from to) a c
  run_named_or_gone apart a b c m (inl m') = run_named apart a b c m m'
  run_named_or_gone apart a b c m (inr (same, gone)) =
      run_then (run_linked a b m) (run_stay (run_begin (λ s t. t ≡ s) (IsGone from) b gone) same)
      (λ s t x. x) given_still given_and_gone

  pub run_not_named : (twice twice' : Type 0) → (twice → twice') → (a b c : List State) → Moves (Links from to) a b → Moves (Removes to) b c ⊎ ((c ≡ b) × twice)
      → Run (IsRenaming from to failed) (IsNotRenamed from to failed twice') a c
  run_not_named twice twice' more a b c m (inl m') =
      run_step (Removes to) (run_linked a b m) m' (λ s t x. x)
      (λ s t u x y. inl (removed_again s t u x.free x.others y)) (λ s t u x y. inl (removed_again s t u x.free x.others y))
  run_not_named twice twice' more a b c m (inr (same, both)) =
      run_weaker (run_stay (run_linked a b m) same) (λ s t x. x) (λ s t x. inr (named_twice s t x, more both))

  pub run_not_renamed : (twice : Type 0) (a b : List State) → b ≡ a → Run (IsRenaming from to failed) (IsNotRenamed from to failed twice) a b
  run_not_renamed twice a b same = run_none same (λ s. inl (λ n. refl))

  -- what is said where a call failed, once one did
  named_since : failed → (s t : State) → IsNamedTwice from to ⊤ s t → IsNamedTwice from to failed s t
  named_since yes_ s t x = record { free = x.free; file = file x.file; others = x.others }
    where
      file : (t.at to ≡ s.at from) ⊎ (Holds t to (λ f. f.bytes ≡ []) × ⊤) → (t.at to ≡ s.at from) ⊎ (Holds t to (λ f. f.bytes ≡ []) × failed)
      file (inl same) = inl same
      file (inr (empty, any)) = inr (empty, yes_)

  since : failed → (s t : State) → IsRenaming from to ⊤ s t → IsRenaming from to failed s t
  since yes_ s t (inl same) = inl same
  since yes_ s t (inr (inr renamed)) = inr (inr renamed)
  since yes_ s t (inr (inl twice)) = inr (inl (named_since yes_ s t twice))

  not_since : failed → (twice twice' : Type 0) → (twice → twice') → (s t : State) → IsNotRenamed from to ⊤ twice s t → IsNotRenamed from to failed twice' s t
  not_since yes_ twice twice' more s t (inl same) = inl same
  not_since yes_ twice twice' more s t (inr (named, both)) = inr (named_since yes_ s t named, more both)

  pub on_renamed : {T E : Type 0} (r : Result T E) → (a b c : List State) → b ≡ a → OnOk r failed → OnOk r (Run (IsRenaming from to ⊤) (IsRenamed from to) b c)
      → OnOk r (Run (IsRenaming from to failed) (IsRenamed from to) a c)
  on_renamed (Ok x) a b c same yes_ run =
      let P : List State → Type 0 = λ xs. Run (IsRenaming from to ⊤) (IsRenamed from to) xs c in
      run_weaker (subst P same run) (since yes_) (λ s t x. x)
  on_renamed (Err e) a b c same yes_ run = tt

  pub on_not_renamed : {T E : Type 0} (r : Result T E) (twice twice' : Type 0) → (a b c : List State) → b ≡ a → OnErr r failed → (twice → twice') → OnErr r (Run (IsRenaming from to ⊤) (IsNotRenamed from to ⊤ twice) b c)
      → OnErr r (Run (IsRenaming from to failed) (IsNotRenamed from to failed twice') a c)
  on_not_renamed (Err e) twice twice' a b c same yes_ more run =
      let P : List State → Type 0 = λ xs. Run (IsRenaming from to ⊤) (IsNotRenamed from to ⊤ twice) xs c in
      run_weaker (subst P same run) (since yes_) (not_since yes_ twice twice' more)
  on_not_renamed (Ok x) twice twice' a b c same yes_ more run = tt

module _ (from to : List ℕ) (mode : ℕ) where
  held : (s t : State) → Creates to mode s t → IsNamedTwice from to ⊤ s t
  held s t x = record { free = x.free; file = inr ((x.file.0, x.file.1, x.file.2.0), tt); others = x.others }

  run_held : (a b : List State) → Moves (Creates to mode) a b → Run (IsRenaming from to ⊤) (Creates to mode) a b
  run_held a b m = run_one (Creates to mode) m (λ s t x. inr (inl (held s t x))) (λ s t x. x)

  renamed_by_holder : (apart : from ≢ to) (s t u : State) → Creates to mode s t → Renames from to t u → IsRenamed from to s u
  renamed_by_holder apart s t u x y = record {
    free = x.free;
    file = y.file ∙ x.others from apart;
    gone = y.gone;
    others = λ n ne ne'. y.others n ne ne' ∙ x.others n ne';
  }

  pub run_replaced_holder : (apart : from ≢ to) (a b c : List State) → Moves (Creates to mode) a b → Moves (Renames from to) b c → Run (IsRenaming from to ⊤) (IsRenamed from to) a c
  run_replaced_holder apart a b c m m' =
      run_step (Renames from to) (run_held a b m) m' (λ s t x. x)
      (λ s t u x y. inr (inr (renamed_by_holder apart s t u x y))) (renamed_by_holder apart)

  -- the file could not replace it, and it was removed, or its removal failed too
  pub run_holder_undone : {T E : Type 0} (r : Result T E) (a b c d : List State) (f f' f'' : ℕ) → Moves (Creates to mode) a b → c ≡ b → f' ≡ count_after true f → Does (Removes to) c d f' f'' r
      → Run (IsRenaming from to ⊤) (IsNotRenamed from to ⊤ (FailedTwice f f'')) a d
  run_holder_undone (Ok x) a b c d f f' f'' m same count does =
      run_step (Removes to) (run_stay (run_held a b m) same) does.done (λ s t x. x)
      (λ s t u x y. inl (removed_again from to ⊤ s t u x.free x.others y)) (λ s t u x y. inl (removed_again from to ⊤ s t u x.free x.others y))
  run_holder_undone (Err e) a b c d f f' f'' m same count does =
      run_weaker (run_stay (run_stay (run_held a b m) same) does.failed) (λ s t x. x)
      (λ s t x. inr (held s t x, omega (arith, count, does.count)))

  -- the file that was made has the name
  pub holder_there : (a b : List State) → Moves (Creates to mode) a b → Now b (IsThere to)
  holder_there a b m = moves_now (λ s. ⊤) (IsThere to) (Creates to mode) a b (now_any a) m (λ s t any x none. let some = x.file.1 in cc)

-- a call that failed before others
pub failed_since : (f g h : ℕ) → g ≡ count_after true f → FailsOrNot g h → count_after true f ≤ h
failed_since f g h e (inl same) = omega (arith, e, same)
failed_since f g h e (inr more) = omega (arith, e, more)

-- of a count that is equal
pub moved_since : {T E : Type 0} (r : Result T E) (from to : List ℕ) (b c : List State) (f g k : ℕ) → g ≡ f
    → OnOk r (Run (IsRenaming from to (count_after true g ≤ k)) (IsRenamed from to) b c) → OnOk r (Run (IsRenaming from to (count_after true f ≤ k)) (IsRenamed from to) b c)
moved_since r from to b c f g k e run =
    let P : ℕ → Type 0 = λ n. OnOk r (Run (IsRenaming from to (count_after true n ≤ k)) (IsRenamed from to) b c) in subst P e run

pub not_moved_since : {T E : Type 0} (r : Result T E) (from to : List ℕ) (b c : List State) (f g k : ℕ) → g ≡ f
    → OnErr r (Run (IsRenaming from to (count_after true g ≤ k)) (IsNotRenamed from to (count_after true g ≤ k) (FailedTwice g k)) b c)
    → OnErr r (Run (IsRenaming from to (count_after true f ≤ k)) (IsNotRenamed from to (count_after true f ≤ k) (FailedTwice f k)) b c)
not_moved_since r from to b c f g k e run =
    let P : ℕ → Type 0 = λ n. OnErr r (Run (IsRenaming from to (count_after true n ≤ k)) (IsNotRenamed from to (count_after true n ≤ k) (FailedTwice n k)) b c) in subst P e run
