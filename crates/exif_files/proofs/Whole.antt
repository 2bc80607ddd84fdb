-- What the calls make of the states from the creation of the new file to the last.
use Rattle.std.proofs.Common.{◌≡◌, ◌≢◌, ◌⊎◌, ℕ, List, [], ◌∷◌, Bool, subst, Option, None, Some, true, sym, ap, ◌∙◌, inl, inr, Result, Ok, Err, OnErr, ◌≤◌}
use Rattle.exif_files.specs.declared.failure.WriteError.{WriteError}
use Rattle.exif_files.specs.declared.failure.WriteError.TheVariants.{Taken}
use Rattle.exif_files.specs.States.{State, Holds, Elsewhere, Now, Run}
use Rattle.exif_files.specs.Steps.{Creates, Removes, Settles, Moves, Does, count_after}
use Rattle.exif_files.specs.Names.{IsHidden, IsFresh, OthersKept}
use Rattle.exif_files.specs.Written.{IsNew, IsWhole, IsReplaced, IsReplacedForGood, IsGivenUp, FailedTwice, FailedToRemove, none_failed}
use Rattle.exif_files.specs.Parts.{FailsOrNot, FailsOnceOrNot, IsFreeFor, IsPutting, IsPut, IsNotPut}
use Rattle.exif_files.proofs.Runs.{run_one, run_then, run_step, run_stay, run_weaker}
use Rattle.exif_files.proofs.Counts.{same_or_other, calm_same, not_calm_after, calmer_after, twice_then, removal_failed}
use Rattle.exif_files.proofs.Moving.{file_calmer, new_calmer}

-- the file that was made has no bytes
pub made_empty : (beside : List ℕ) (mode : ℕ) (a b : List State) → Moves (Creates beside mode) a b → Now b (λ s. Holds s beside (λ f. f.bytes ≡ []))
made_empty beside mode [] b m = let P : List State → Type 0 = λ b. Now b (λ s. Holds s beside (λ f. f.bytes ≡ [])) in subst P (sym m) tt
made_empty beside mode (s ∷ past) b m =
    let P : List State → Type 0 = λ b. Now b (λ s. Holds s beside (λ f. f.bytes ≡ [])) in
    subst P (sym m.2) (m.1.file.0, m.1.file.1, m.1.file.2.0)

-- another name than the temporary one
pub not_beside : (backup : Option (List ℕ)) (beside : List ℕ) → IsHidden beside → (s : State) → s.at beside ≡ None → (n : List ℕ) → (IsFresh backup s n → ⊥) → n ≢ beside
not_beside backup beside hidden s free n fresh e =
    fresh (record { free = ap s.at e ∙ free; own = inl (hidden.0, hidden.1, e ∙ hidden.2) })

-- a name of the old file that was free
fresh_before : (backup : Option (List ℕ)) (s t : State) (n : List ℕ) → t.at n ≡ s.at n → (IsFresh backup s n → ⊥) → IsFreeFor backup t n → ⊥
fresh_before backup s t n same fresh h = fresh (record { free = sym same ∙ h.free; own = inr h.named })

new_since : (name bytes : List ℕ) (times calm : Bool) (s t u : State) → t.at name ≡ s.at name → IsNew name bytes times calm t u → IsNew name bytes times calm s u
new_since name bytes times calm s t u same new = (new.0, sym same ∙ new.1, new.2)

file_since : (name bytes : List ℕ) (times calm : Bool) (s t u : State) → t.at name ≡ s.at name → (u.at name ≡ t.at name) ⊎ IsNew name bytes times calm t u → (u.at name ≡ s.at name) ⊎ IsNew name bytes times calm s u
file_since name bytes times calm s t u same (inl old) = inl (old ∙ same)
file_since name bytes times calm s t u same (inr new) = inr (new_since name bytes times calm s t u same new)

-- what is said of a name, where it is spelled otherwise
pub created_as : (n m : List ℕ) → n ≡ m → (mode : ℕ) (a b : List State) → Moves (Creates m mode) a b → Moves (Creates n mode) a b
created_as n m e mode a b h = let P : List ℕ → Type 0 = λ x. Moves (Creates x mode) a b in subst P (sym e) h

pub hidden_as : (n m : List ℕ) → n ≡ m → IsHidden m → IsHidden n
hidden_as n m e h = (h.0, h.1, e ∙ h.2)

pub other_as : (name n m : List ℕ) → n ≡ m → m ≢ name → name ≢ n
other_as name n m e ne same = ne (sym e ∙ sym same)

pub backup_as : (backup : Option (List ℕ)) (n m : List ℕ) → n ≡ m → (backup ≡ Some m → ⊥) → backup ≡ Some n → ⊥
backup_as backup n m e off same = off (same ∙ ap (λ (x : List ℕ). Some x) e)

module _ (name beside : List ℕ) (backup : Option (List ℕ)) (bytes : List ℕ) (times calm : Bool) (mode : ℕ) (apart : name ≢ beside) (hidden : IsHidden beside) where
  -- while the old one is there
  pub whole_before : (s t : State) → s.at beside ≡ None → Elsewhere beside s t → IsWhole name backup bytes times calm s t
  whole_before s t free others = record { file = inl (others name apart); others = λ n ne fresh. others n (not_beside backup beside hidden s free n fresh) }

  whole_after : (s t u : State) → Creates beside mode s t → IsPutting name beside backup bytes times calm t u → IsWhole name backup bytes times calm s u
  whole_after s t u x y = record {
    file = file_since name bytes times calm s t u (x.others name apart) y.file;
    others = λ n ne fresh.
        let ne' = not_beside backup beside hidden s x.free n fresh in
        y.others n ne ne' (fresh_before backup s t n (x.others n ne') fresh) ∙ x.others n ne';
  }

  replaced_after : (s t u : State) → Creates beside mode s t → IsPut name beside backup bytes times calm t u → (backup ≡ Some beside → ⊥) → IsReplaced name backup bytes times calm s u
  replaced_after s t u x y no_backup = record {
    file = new_since name bytes times calm s t u (x.others name apart) y.file;
    kept_as = λ k e. y.kept_as k e ∙ x.others name apart;
    was_free = λ k e. sym (x.others k (λ same. no_backup (e ∙ ap (λ (n : List ℕ). Some n) same))) ∙ y.was_free k e;
    others = λ n ne no. elim (same_or_other n beside) [
      | inl e ↦ ap u.at e ∙ y.gone ∙ sym x.free ∙ ap s.at (sym e)
      | inr ne' ↦ y.others n ne ne' no ∙ x.others n ne'
    ];
  }

  created_run : (a b : List State) → Moves (Creates beside mode) a b → Run (IsWhole name backup bytes times calm) (Creates beside mode) a b
  created_run a b m = run_one (Creates beside mode) m (λ s t h. whole_before s t h.free h.others) (λ s t h. h)

  -- the new file has the name
  pub run_replaced : (a b c : List State) → (backup ≡ Some beside → ⊥) → Moves (Creates beside mode) a b
      → Run (IsPutting name beside backup bytes times calm) (IsPut name beside backup bytes times calm) b c
      → Run (IsWhole name backup bytes times calm) (IsReplaced name backup bytes times calm) a c
  run_replaced a b c no_backup m run =
      run_then (created_run a b m) run (λ s t h. h) whole_after (λ s t u x y. replaced_after s t u x y no_backup)

  -- and the disk has the name
  pub run_for_good : (a b c : List State) → Run (IsWhole name backup bytes times calm) (IsReplaced name backup bytes times calm) a b
      → Moves (Settles name) b c → Run (IsWhole name backup bytes times calm) (IsReplacedForGood name backup bytes times calm) a c
  run_for_good a b c run m =
      let replaced : (s t u : State) → IsReplaced name backup bytes times calm s t → Settles name t u → IsReplaced name backup bytes times calm s u =
      λ s t u x y. record {
        file = (x.file.0, x.file.1, (x.file.2.0, y.same name ∙ x.file.2.1, x.file.2.2));
        kept_as = λ k e. y.same k ∙ x.kept_as k e;
        was_free = x.was_free;
        others = λ n ne no. y.same n ∙ x.others n ne no;
      } in
      run_step (Settles name) run m (λ s t h. h)
      (λ s t u x y. let r = replaced s t u x y in record { file = inr r.file; others = λ n ne fresh. y.same n ∙ kept s t x n ne fresh })
      (λ s t u x y. record { replaced = replaced s t u x y; settled = y.settled })
    where
      kept : (s t : State) → IsReplaced name backup bytes times calm s t → OthersKept backup name s t
      kept s t x n ne fresh = x.others n ne (λ e. fresh (record { free = x.was_free n e; own = inr e }))

  -- the name has what it had while the new file was put
  name_left : (twice : Type 0) → (backup ≡ Some name → ⊥) → (t u : State) → IsNotPut beside backup twice t u → u.at name ≡ t.at name
  name_left twice no_backup t u (inl others) = others name apart
  name_left twice no_backup t u (inr (others, both)) = others name apart (λ h. no_backup h.named)

  -- what is left beside
  LeftBeside : Type 0 → State → State → Type 0
  LeftBeside twice s u = Elsewhere beside s u ⊎ (((n : List ℕ) → n ≢ beside → (IsFresh backup s n → ⊥) → u.at n ≡ s.at n) × twice)

  left_since : (twice : Type 0) (s t u : State) → Creates beside mode s t → IsNotPut beside backup twice t u → LeftBeside twice s u
  unfolding LeftBeside
  left_since twice s t u x (inl others) = inl (λ n ne. others n ne ∙ x.others n ne)
  left_since twice s t u x (inr (others, both)) = inr (λ n ne fresh. others n ne (fresh_before backup s t n (x.others n ne) fresh) ∙ x.others n ne, both)

  -- whatever is left, other names have what they had
  left_others : (twice : Type 0) (s u : State) → LeftBeside twice s u → (n : List ℕ) → n ≢ beside → (IsFresh backup s n → ⊥) → u.at n ≡ s.at n
  unfolding LeftBeside
  left_others twice s u (inl others) n ne fresh = others n ne
  left_others twice s u (inr (others, both)) n ne fresh = others n ne fresh

  -- a file beside was begun under a name that was free, and the name has what it had
  record IsBegun (twice : Type 0) (s u : State) : Type 0 where
    free : s.at beside ≡ None
    same : u.at name ≡ s.at name
    left : LeftBeside twice s u

  begun_whole : (twice : Type 0) (s u : State) → IsBegun twice s u → IsWhole name backup bytes times calm s u
  begun_whole twice s u x = record { file = inl x.same; others = λ n ne fresh. left_others twice s u x.left n (not_beside backup beside hidden s x.free n fresh) fresh }

  gone_whole : (twice : Type 0) (s u v : State) → IsBegun twice s u → Removes beside u v → IsWhole name backup bytes times calm s v
  gone_whole twice s u v x y = record {
    file = inl (y.others name apart ∙ x.same);
    others = λ n ne fresh.
        let ne' = not_beside backup beside hidden s x.free n fresh in
        y.others n ne' ∙ left_others twice s u x.left n ne' fresh;
  }

  gone_given_up : (twice end : Type 0) → (twice → end) → (s u v : State) → s.at beside ≡ None → u.at name ≡ s.at name → LeftBeside twice s u → Removes beside u v → IsGivenUp name backup bytes times calm end s v
  unfolding LeftBeside
  gone_given_up twice end f s u v free same (inl others) y = inl (λ n. elim (same_or_other n beside) [
    | inl e ↦ ap v.at e ∙ y.gone ∙ sym free ∙ ap s.at (sym e)
    | inr ne ↦ y.others n ne ∙ others n ne
  ])
  gone_given_up twice end f s u v free same (inr (others, both)) y = inr (inr (record { same = y.others name apart ∙ same; others = λ n fresh. let ne = not_beside backup beside hidden s free n fresh in y.others n ne ∙ others n ne fresh }, f both))

  begun_run : (twice : Type 0) (calm' : Bool) → (backup ≡ Some name → ⊥) → (calm ≡ true → calm' ≡ true) → (a b c : List State) → Moves (Creates beside mode) a b
      → Run (IsPutting name beside backup bytes times calm') (IsNotPut beside backup twice) b c
      → Run (IsWhole name backup bytes times calm) (IsBegun twice) a c
  begun_run twice calm' no_backup calmer a b c m run =
      run_then (created_run a b m) run (λ s t h. h)
      (λ s t u x y. whole_after s t u x (record { file = file_calmer name bytes times calm' calm calmer t u y.file; others = y.others }))
      (λ s t u x y. record { free = x.free; same = name_left twice no_backup t u y ∙ x.others name apart; left = left_since twice s t u x y })

  -- the new file could not be put, and was removed; or its removal failed too
  pub run_given_up : {T E : Type 0} (r : Result T E) (twice end : Type 0) (calm' : Bool) → (backup ≡ Some name → ⊥) → (calm ≡ true → calm' ≡ true) → (a b c d : List State) (f f' : ℕ)
      → Moves (Creates beside mode) a b → Run (IsPutting name beside backup bytes times calm') (IsNotPut beside backup twice) b c
      → Does (Removes beside) c d f f' r → (twice → end) → OnErr r end
      → Run (IsWhole name backup bytes times calm) (IsGivenUp name backup bytes times calm end) a d
  run_given_up (Ok x) twice end calm' no_backup calmer a b c d f f' m run does first second =
      run_step (Removes beside) (begun_run twice calm' no_backup calmer a b c m run) does.done (λ s t h. h) (λ s u v x y. gone_whole twice s u v x y)
      (λ s u v x y. gone_given_up twice end first s u v x.free x.same x.left y)
  run_given_up (Err e) twice end calm' no_backup calmer a b c d f f' m run does first second =
      run_weaker (run_stay (begun_run twice calm' no_backup calmer a b c m run) does.failed) (λ s t h. h)
      (λ s u x. inr (inr (record { same = x.same; others = λ n fresh. left_others twice s u x.left n (not_beside backup beside hidden s x.free n fresh) fresh }, second)))

-- the whole replacement, where all went well
pub replaced_for_good : (name beside : List ℕ) (backup : Option (List ℕ)) (bytes : List ℕ) (times : Bool) (mode : ℕ) → name ≢ beside → IsHidden beside → (backup ≡ Some beside → ⊥)
    → (a b c d : List State) (f g h k : ℕ) → Moves (Creates beside mode) a b → g ≡ f
    → Run (IsPutting name beside backup bytes times (none_failed g h)) (IsPut name beside backup bytes times (none_failed g h)) b c → Moves (Settles name) c d → k ≡ h
    → Run (IsWhole name backup bytes times (none_failed f k)) (IsReplacedForGood name backup bytes times (none_failed f k)) a d
replaced_for_good name beside backup bytes times mode apart hidden no_backup a b c d f g h k m e run m' e' =
    let P : Bool → Type 0 = λ calm. Run (IsWhole name backup bytes times calm) (IsReplacedForGood name backup bytes times calm) a d in
    subst P (calm_same f g h k e e')
    (run_for_good name beside backup bytes times (none_failed g h) mode apart hidden a c d (run_replaced name beside backup bytes times (none_failed g h) mode apart hidden a b c no_backup m run) m')

-- the name alone could not be synced
pub not_settled : (name beside : List ℕ) (backup : Option (List ℕ)) (bytes : List ℕ) (times : Bool) (mode : ℕ) (end : Type 0) → name ≢ beside → IsHidden beside → (backup ≡ Some beside → ⊥)
    → (a b c d : List State) (f g h k : ℕ) → Moves (Creates beside mode) a b → g ≡ f → FailsOnceOrNot g h
    → Run (IsPutting name beside backup bytes times (none_failed g h)) (IsPut name beside backup bytes times (none_failed g h)) b c → d ≡ c → k ≡ count_after true h
    → Run (IsWhole name backup bytes times (none_failed f k)) (IsGivenUp name backup bytes times (none_failed f k) end) a d
not_settled name beside backup bytes times mode end apart hidden no_backup a b c d f g h k m e once run same count =
    let calmer : none_failed f k ≡ true → none_failed g h ≡ true = λ holds. absurd (not_calm_after f h k (subst (λ (n : ℕ). FailsOnceOrNot n h) e once) count holds) in
    run_weaker (run_stay (run_replaced name beside backup bytes times (none_failed g h) mode apart hidden a b c no_backup m run) same)
    (λ s t w. record { file = file_calmer name bytes times (none_failed g h) (none_failed f k) calmer s t w.file; others = w.others })
    (λ s t r. inr (inl (record { file = new_calmer name bytes times (none_failed g h) (none_failed f k) calmer s t r.file; kept_as = r.kept_as; was_free = r.was_free; others = r.others })))

-- the new file could not be put
pub not_replaced : {T E : Type 0} (r : Result T E) (error : WriteError) (name beside : List ℕ) (backup : Option (List ℕ)) (bytes : List ℕ) (times : Bool) (mode : ℕ) → name ≢ beside → IsHidden beside → (backup ≡ Some name → ⊥)
    → (a b c d : List State) (f g h k : ℕ) → Moves (Creates beside mode) a b → g ≡ f → FailsOrNot g h → (error ≢ Taken → count_after true g ≤ h)
    → Run (IsPutting name beside backup bytes times (none_failed g h)) (IsNotPut beside backup (FailedTwice g h)) b c → Does (Removes beside) c d h k r
    → Run (IsWhole name backup bytes times (none_failed f k)) (IsGivenUp name backup bytes times (none_failed f k) (FailedToRemove error f k)) a d
not_replaced r error name beside backup bytes times mode apart hidden no_backup a b c d f g h k m e rises cause run does =
    run_given_up name beside backup bytes times (none_failed f k) mode apart hidden r (FailedTwice g h) (FailedToRemove error f k) (none_failed g h) no_backup
    (calmer_after r f g h k e rises does.count) a b c d h k m run does (twice_then r error f g h k e does.count) (removal_failed r error f g h k e rises cause does.count)
