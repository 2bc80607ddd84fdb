-- What the calls make of the states by which a file gets another name.
use Rattle.std.proofs.Common.{◌≡◌, ◌≢◌, ◌⊎◌, ◌≤◌, ℕ, List, [], true, Option, Some, None, subst, sym, ap, refl, ◌∙◌, inl, inr, arith}
use Rattle.std.specs.Prelude.{IfErr, OnErr, Result, Ok, Err}
use Rattle.std.specs.Result.{IsErrAnd}
use Rattle.exif_files.specs.States.{Entry, State, Holds, Run}
use Rattle.exif_files.specs.Names.{IsFresh}
use Rattle.exif_files.specs.NewNames.{IsNamedTwice, IsNotRenamed, IsRenamed, IsRenaming}
use Rattle.exif_files.specs.Steps.{Removes, Settles, Moves, count_after}
use Rattle.exif_files.specs.Written.{FailedToRemove}
use Rattle.exif_files.specs.declared.failure.WriteError.{WriteError}
use Rattle.exif_files.proofs.Counts.{same_or_other}
use Rattle.exif_files.proofs.Runs.{run_step, run_stay, run_weaker}
use Rattle.exif_rename.specs.Moves.{IsCaused, IsCopied, IsCopiedAway, IsCopiedForGood, IsCopy, IsCopyOrHeld, IsMovedBy, IsNotCopied, IsNotMoved, IsWholeCopy, IsWholeMove}
use Rattle.exif_rename.specs.declared.moving.Attributes.{Attributes}
use Rattle.exif_rename.specs.declared.moving.Moved.{Moved}
use Rattle.exif_rename.specs.declared.moving.Moved.TheVariants.{Copied}
use Rattle.exif_rename.proofs.Copying.{for_good_copied, copy_more}

-- what an error that is passed on says
pub if_err_and : {T E : Type 0} (P Q : E → Type 0) (r : Result T E) → IsErrAnd r P → ((e : E) → P e → Q e) → IfErr r Q
if_err_and P Q (Ok x) p f = tt
if_err_and P Q (Err e) p f = f e p

-- ---- a copy, and the removal

-- a file that is there is not fresh
there_not_fresh : (s : State) (n : List ℕ) (f : Entry) → s.at n ≡ Some f → IsFresh None s n → ⊥
there_not_fresh s n f is fresh = let none = fresh.free in cc

whole_copy_moves : (from to : List ℕ) (failed : Type 0) (s t : State) → IsWholeCopy from to failed s t → IsWholeMove from to failed s t
whole_copy_moves from to failed s t x = record {
  file = λ f is. inl (still f is (same_or_other from to) x.file);
  there = x.file;
  others = λ n ne ne' fresh. x.others n ne' fresh;
}
  where
    still : (f : Entry) → s.at from ≡ Some f → (from ≡ to) ⊎ (from ≢ to) → (t.at to ≡ s.at to) ⊎ IsCopyOrHeld from to failed s t → t.at from ≡ Some f
    still f is (inr ne) file = x.others from ne (there_not_fresh s from f is) ∙ is
    still f is (inl same) (inl kept) = ap t.at same ∙ kept ∙ ap s.at (sym same) ∙ is
    still f is (inl same) (inr (inl copy)) = let here : s.at from ≡ s.at to = ap s.at same in let none = copy.0 in cc
    still f is (inl same) (inr (inr (held, yes_))) = let here : s.at from ≡ s.at to = ap s.at same in let none = held.0 in cc

-- what is said where a call failed is said where more failed
pub move_more : (from to : List ℕ) (failed failed' : Type 0) → (failed → failed') → (s t : State) → IsWholeMove from to failed s t → IsWholeMove from to failed' s t
move_more from to failed failed' more s t x = record { file = x.file; there = there x.there; others = x.others }
  where
    there : (t.at to ≡ s.at to) ⊎ IsCopyOrHeld from to failed s t → (t.at to ≡ s.at to) ⊎ IsCopyOrHeld from to failed' s t
    there (inl same) = inl same
    there (inr (inl copy)) = inr (inl copy)
    there (inr (inr (held, yes_))) = inr (inr (held, more yes_))

apart : (from to : List ℕ) (s t : State) → IsCopied from to s t → to ≢ from
apart from to s t x same = let here : s.at to ≡ s.at from = ap s.at same in let some = x.copy.1.1 in let none = x.copy.0 in cc

copied_away : (from to : List ℕ) (attributes : Attributes) (s t u : State) → IsCopiedForGood from to attributes s t → Removes from t u → IsCopiedAway from to attributes s u
copied_away from to attributes s t u x y =
    let f = x.file in
    let g = f.2 in
    let ne = apart from to s t (for_good_copied from to attributes s t x) in
    record {
      free = x.free;
      file = (f.0, f.1, (g.0, y.others to ne ∙ g.1, g.2));
      gone = y.gone;
      others = λ n ne ne'. y.others n ne ∙ x.others n ne';
    }

away_copy : (from to : List ℕ) (attributes : Attributes) (s t : State) → IsCopiedAway from to attributes s t → IsCopy from to s t
away_copy from to attributes s t x = let f = x.file in (x.free, (f.0, f.1, (f.2.0, f.2.1, f.2.2.0)))

away_whole : (from to : List ℕ) (failed : Type 0) (attributes : Attributes) (s t : State) → IsCopiedAway from to attributes s t → IsWholeMove from to failed s t
away_whole from to failed attributes s t x = record {
  file = λ f is. inr (x.gone, away_copy from to attributes s t x);
  there = inr (inl (away_copy from to attributes s t x));
  others = λ n ne ne' fresh. x.others n ne ne';
}

away_settled : (from to : List ℕ) (attributes : Attributes) (s t u : State) → IsCopiedAway from to attributes s t → ((n : List ℕ) → u.at n ≡ t.at n) → IsCopiedAway from to attributes s u
away_settled from to attributes s t u x same =
    let f = x.file in
    let g = f.2 in
    record { free = x.free; file = (f.0, f.1, (g.0, same to ∙ g.1, g.2)); gone = same from ∙ x.gone; others = λ n ne ne'. same n ∙ x.others n ne ne' }

pub run_away : (from to : List ℕ) (failed failed' : Type 0) → (failed → failed') → (attributes : Attributes) (a b c : List State) → Run (IsWholeCopy from to failed) (IsCopiedForGood from to attributes) a b
    → Moves (Removes from) b c → Run (IsWholeMove from to failed') (IsCopiedAway from to attributes) a c
run_away from to failed failed' more attributes a b c run m =
    run_step (Removes from) run m (λ s t x. whole_copy_moves from to failed' s t (copy_more from to failed failed' more s t x))
    (λ s t u x y. away_whole from to failed' attributes s u (copied_away from to attributes s t u x y)) (copied_away from to attributes)

pub run_away_settled : (from to : List ℕ) (failed : Type 0) (attributes : Attributes) (a b c : List State) → Run (IsWholeMove from to failed) (IsCopiedAway from to attributes) a b → Moves (Settles from) b c
    → Run (IsWholeMove from to failed) (IsMovedBy from to (Copied attributes)) a c
run_away_settled from to failed attributes a b c run m =
    run_step (Settles from) run m (λ s t x. x)
    (λ s t u x y. away_whole from to failed attributes s u (away_settled from to attributes s t u x y.same))
    (λ s t u x y. (away_settled from to attributes s t u x y.same, y.settled))

pub run_away_unsettled : (from to : List ℕ) (failed : Type 0) (attributes : Attributes) (cause twice : Type 0) (a b c : List State) → Run (IsWholeMove from to failed) (IsCopiedAway from to attributes) a b → c ≡ b
    → Run (IsWholeMove from to failed) (IsNotMoved from to cause failed twice) a c
run_away_unsettled from to failed attributes cause twice a b c run same =
    run_weaker (run_stay run same) (λ s t x. x) (λ s t x. inr (attributes, x))

-- the file was not removed
pub run_both : (from to : List ℕ) (failed failed' : Type 0) → (failed → failed') → (attributes : Attributes) (cause twice : Type 0) (a b c : List State) → Run (IsWholeCopy from to failed) (IsCopiedForGood from to attributes) a b
    → c ≡ b → Run (IsWholeMove from to failed') (IsNotMoved from to cause failed' twice) a c
run_both from to failed failed' more attributes cause twice a b c run same =
    run_weaker (run_stay run same) (λ s t x. whole_copy_moves from to failed' s t (copy_more from to failed failed' more s t x))
    (λ s t x. inl (inr (inl (for_good_copied from to attributes s t x))))

-- the file was not copied
pub run_no_copy : (from to : List ℕ) (failed : Type 0) (e e' : WriteError) (f f' : ℕ) (a b : List State) → e ≡ e'
    → Run (IsWholeCopy from to failed) (IsNotCopied from to (IsCaused e f f') failed (FailedToRemove e f f')) a b
    → Run (IsWholeMove from to failed) (IsNotMoved from to (IsCaused e' f f') failed (count_after true f ≤ f')) a b
run_no_copy from to failed e e' f f' a b same run = run_weaker run (whole_copy_moves from to failed) left
  where
    caused : IsCaused e f f' → IsCaused e' f f'
    caused cause = let Q : WriteError → Type 0 = λ x. IsCaused x f f' in subst Q same cause

    left : (s t : State) → IsNotCopied from to (IsCaused e f f') failed (FailedToRemove e f f') s t → IsNotMoved from to (IsCaused e' f f') failed (count_after true f ≤ f') s t
    left s t (inl (unchanged, cause)) = inl (inl (unchanged, caused cause))
    left s t (inr (inl copied)) = inl (inr (inl copied))
    left s t (inr (inr (whole, once))) = inl (inr (inr (whole, once.once)))

-- ---- a rename

module _ (from to : List ℕ) (failed : Type 0) where
  file_there : (s t : State) → s.at to ≡ None → t.at to ≡ s.at from → (o : Option Entry) → s.at from ≡ o → (t.at to ≡ s.at to) ⊎ IsCopyOrHeld from to failed s t
  file_there s t free e None is = inl (e ∙ is ∙ sym free)
  file_there s t free e (Some f) is = inr (inl (free, (f, is, (f, e ∙ is, refl))))

  named_there : (s t : State) → IsNamedTwice from to failed s t → (t.at to ≡ s.at to) ⊎ IsCopyOrHeld from to failed s t
  named_there s t x = there x.file
    where
      there : (t.at to ≡ s.at from) ⊎ (Holds t to (λ f. f.bytes ≡ []) × failed) → (t.at to ≡ s.at to) ⊎ IsCopyOrHeld from to failed s t
      there (inl e) = file_there s t x.free e (s.at from) refl
      there (inr (empty, yes_)) = inr (inr ((x.free, empty), yes_))

  named_copy : (s t : State) → IsNamedTwice from to failed s t → IsWholeCopy from to failed s t
  named_copy s t x = record { file = named_there s t x; others = λ n ne fresh. x.others n ne }

  renaming_whole : (s t : State) → IsRenaming from to failed s t → IsWholeMove from to failed s t
  renaming_whole s t (inl same) = record { file = λ f is. inl (same from ∙ is); there = inl (same to); others = λ n ne ne' fresh. same n }
  renaming_whole s t (inr (inl x)) = whole_copy_moves from to failed s t (named_copy s t x)
  renaming_whole s t (inr (inr x)) = record {
    file = λ f is. inr (x.gone, (x.free, (f, is, (f, x.file ∙ is, refl))));
    there = file_there s t x.free x.file (s.at from) refl;
    others = λ n ne ne' fresh. x.others n ne ne';
  }

  pub run_renamed : (a b : List State) → Run (IsRenaming from to failed) (IsRenamed from to) a b → Run (IsWholeMove from to failed) (IsRenamed from to) a b
  run_renamed a b run = run_weaker run renaming_whole (λ s t x. x)

  pub run_not_renamed : (cause twice twice' : Type 0) → cause → (twice → twice') → (a b : List State) → Run (IsRenaming from to failed) (IsNotRenamed from to failed twice) a b
      → Run (IsWholeMove from to failed) (IsNotMoved from to cause failed twice') a b
  run_not_renamed cause twice twice' caused more a b run = run_weaker run renaming_whole left
    where
      left : (s t : State) → IsNotRenamed from to failed twice s t → IsNotMoved from to cause failed twice' s t
      left s t (inl same) = inl (inl (same, caused))
      left s t (inr (named, both)) = inl (inr (inr (named_copy s t named, more both)))

-- ---- after a rename that failed

pub moved_after : (from to : List ℕ) (moved : Moved) (f f' f'' : ℕ) (a b c : List State) → b ≡ a → count_after true f ≤ f' → Run (IsWholeMove from to (count_after true f' ≤ f'')) (IsMovedBy from to moved) b c
    → Run (IsWholeMove from to (count_after true f ≤ f'')) (IsMovedBy from to moved) a c
moved_after from to moved f f' f'' a b c same count run =
    let P : List State → Type 0 = λ xs. Run (IsWholeMove from to (count_after true f' ≤ f'')) (IsMovedBy from to moved) xs c in
    run_weaker (subst P same run) (move_more from to (count_after true f' ≤ f'') (count_after true f ≤ f'') (λ more. omega (arith, count, more))) (λ s t x. x)

pub not_moved_after : (from to : List ℕ) (e : WriteError) (f f' f'' : ℕ) (a b c : List State) → b ≡ a → count_after true f ≤ f'
    → Run (IsWholeMove from to (count_after true f' ≤ f'')) (IsNotMoved from to (IsCaused e f' f'') (count_after true f' ≤ f'') (count_after true f' ≤ f'')) b c
    → Run (IsWholeMove from to (count_after true f ≤ f'')) (IsNotMoved from to (IsCaused e f f'') (count_after true f ≤ f'') (count_after true f ≤ f'')) a c
not_moved_after from to e f f' f'' a b c same count run =
    let P : List State → Type 0 = λ xs. Run (IsWholeMove from to (count_after true f' ≤ f'')) (IsNotMoved from to (IsCaused e f' f'') (count_after true f' ≤ f'') (count_after true f' ≤ f'')) xs c in
    run_weaker (subst P same run) (move_more from to (count_after true f' ≤ f'') (count_after true f ≤ f'') before) left
  where
    before : count_after true f' ≤ f'' → count_after true f ≤ f''
    before more = omega (arith, count, more)

    left : (s t : State) → IsNotMoved from to (IsCaused e f' f'') (count_after true f' ≤ f'') (count_after true f' ≤ f'') s t → IsNotMoved from to (IsCaused e f f'') (count_after true f ≤ f'') (count_after true f ≤ f'') s t
    left s t (inl (inl (unchanged, cause))) = inl (inl (unchanged, λ memory taken crowded. before (cause memory taken crowded)))
    left s t (inl (inr (inl copied))) = inl (inr (inl copied))
    left s t (inl (inr (inr (whole, twice)))) = inl (inr (inr (copy_more from to (count_after true f' ≤ f'') (count_after true f ≤ f'') before s t whole, before twice)))
    left s t (inr moved) = inr moved

-- what is known of an error
pub err_at : {T E : Type 0} (P : E → Type 0) (r : Result T E) (e : E) → r ≡ Err e → IfErr r P → P e
err_at {T = T} {E = E} P r e is h = let Q : Result T E → Type 0 = λ y. IfErr y P in subst Q is h

pub err_on : {T E : Type 0} (P : Type 0) (r : Result T E) (e : E) → r ≡ Err e → OnErr r P → P
err_on {T = T} {E = E} P r e is h = let Q : Result T E → Type 0 = λ y. OnErr y P in subst Q is h
