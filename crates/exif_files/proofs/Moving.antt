-- What the calls make of the states by which a filled file gets its name.
use Rattle.std.proofs.Common.{◌≡◌, ◌≢◌, ◌⊎◌, ℕ, List, [], ◌∷◌, ◌++◌, Bool, subst, Option, None, Some, true, false, sym, ap, refl, ◌∙◌, inl, inr, Result, Ok, Err, OnOk, OnErr, arith}
use Rattle.exif_files.specs.States.{Entry, State, Holds, Elsewhere, Now, Run}
use Rattle.std.specs.Prelude.{⊤}
use Rattle.exif_files.specs.NewNames.{IsThere}
use Rattle.exif_files.specs.Steps.{Syncs, Links, Renames, Removes, Moves, MovesIfFree, Does, count_after}
use Rattle.exif_files.specs.Written.{IsLike, IsNew, FailedTwice, none_failed}
use Rattle.exif_files.specs.Parts.{FailsOrNot, FailsOnceOrNot, IsAppended, HasAccess, IsFreeFor, IsMoving, IsMoved, IsNotMoved, IsPutting, IsPut, IsNotPut}
use Rattle.exif_files.proofs.Runs.{now_any, run_now, run_begin, run_none, run_one, run_then, run_step, run_stay, run_weaker}
use Rattle.exif_files.proofs.Filling.{elsewhere_then}
use Rattle.exif_files.proofs.Counts.{same_or_other, calm_same, calmer_before, twice_since}

-- a name that is free for the old file, as the state before says too
free_before : (backup : Option (List ℕ)) (s t : State) (n : List ℕ) → t.at n ≡ s.at n → (IsFreeFor backup s n → ⊥) → IsFreeFor backup t n → ⊥
free_before backup s t n same fresh h = fresh (record { free = sym same ∙ h.free; named = h.named })

-- another name than the one that was free
not_linked : (backup : Option (List ℕ)) (b : List ℕ) → backup ≡ Some b → (s : State) → s.at b ≡ None → (n : List ℕ) → (IsFreeFor backup s n → ⊥) → n ≢ b
not_linked backup b is s free n fresh e = fresh (record { free = ap s.at e ∙ free; named = is ∙ ap (λ (x : List ℕ). Some x) (sym e) })

pub run_rename : (name beside : List ℕ) (backup : Option (List ℕ)) (a b : List State) → backup ≡ None → Moves (Renames beside name) a b
    → Run (IsMoving name beside backup) (IsMoved name beside backup) a b
run_rename name beside backup a b none m =
    run_one (Renames beside name) m (λ s t h. record { file = inr h.file; others = λ n ne ne' fresh. h.others n ne' ne })
    (λ s t h. record { file = h.file; gone = h.gone; kept_as = λ k e. cc; was_free = λ k e. cc; others = λ n ne ne' no. h.others n ne' ne })

moving_linked : (name beside : List ℕ) (backup : Option (List ℕ)) (k : List ℕ) → backup ≡ Some k → k ≢ name → (s t : State) → Links name k s t → IsMoving name beside backup s t
moving_linked name beside backup k is apart s t h = record {
  file = inl (h.others name (λ e. apart (sym e)));
  others = λ n ne ne' fresh. h.others n (not_linked backup k is s h.free n fresh);
}

run_linked : (name beside : List ℕ) (backup : Option (List ℕ)) (k : List ℕ) (a b : List State) → backup ≡ Some k → k ≢ name → Moves (Links name k) a b
    → Run (IsMoving name beside backup) (Links name k) a b
run_linked name beside backup k a b is apart m = run_one (Links name k) m (moving_linked name beside backup k is apart) (λ s t h. h)

pub run_link_rename : (name beside : List ℕ) (backup : Option (List ℕ)) (k : List ℕ) (a b c : List State) → backup ≡ Some k → k ≢ name → k ≢ beside
    → Moves (Links name k) a b → Moves (Renames beside name) b c → Run (IsMoving name beside backup) (IsMoved name beside backup) a c
run_link_rename name beside backup k a b c is apart apart' m m' =
    run_step (Renames beside name) (run_linked name beside backup k a b is apart m) m' (λ s t h. h)
    (λ s t u x y. record {
      file = inr (y.file ∙ x.others beside (λ e. apart' (sym e)));
      others = λ n ne ne' fresh. y.others n ne' ne ∙ x.others n (not_linked backup k is s x.free n fresh);
    })
    (λ s t u x y. record {
      file = y.file ∙ x.others beside (λ e. apart' (sym e));
      gone = y.gone;
      kept_as = λ k' e. let same : k' ≡ k = cc in ap u.at same ∙ y.others k apart' apart ∙ x.file;
      was_free = λ k' e. let same : k' ≡ k = cc in ap s.at same ∙ x.free;
      others = λ n ne ne' no. y.others n ne' ne ∙ x.others n (λ e. no (is ∙ ap (λ (x : List ℕ). Some x) (sym e)));
    })

-- the rename failed, and the other name of the old file was removed, or its removal failed too
pub run_link_undone : {T E : Type 0} (r : Result T E) (name beside : List ℕ) (backup : Option (List ℕ)) (k : List ℕ) (a b c d : List State) (f f' f'' : ℕ) → backup ≡ Some k → k ≢ name
    → Moves (Links name k) a b → c ≡ b → f' ≡ count_after true f → Does (Removes k) c d f' f'' r
    → Run (IsMoving name beside backup) (IsNotMoved backup (FailedTwice f f'')) a d
run_link_undone (Ok x) name beside backup k a b c d f f' f'' is apart m same count does =
    let linked = run_stay (run_linked name beside backup k a b is apart m) same in
    run_step (Removes k) linked does.done (λ s t h. h)
    (λ s t u x y. record {
      file = inl (y.others name (λ e. apart (sym e)) ∙ x.others name (λ e. apart (sym e)));
      others = λ n ne ne' fresh. let ne'' = not_linked backup k is s x.free n fresh in y.others n ne'' ∙ x.others n ne'';
    })
    (λ s t u x y. inl (λ n. elim (same_or_other n k) [
      | inl e ↦ ap u.at e ∙ y.gone ∙ sym x.free ∙ ap s.at (sym e)
      | inr ne ↦ y.others n ne ∙ x.others n ne
    ]))
run_link_undone (Err e) name beside backup k a b c d f f' f'' is apart m same count does =
    let linked = run_stay (run_stay (run_linked name beside backup k a b is apart m) same) does.failed in
    run_weaker linked (λ s t h. h) (λ s t x. inr (λ n fresh. x.others n (not_linked backup k is s x.free n fresh), omega (arith, count, does.count)))

pub run_not_moved : (name beside : List ℕ) (backup : Option (List ℕ)) (twice : Type 0) (a b : List State) → b ≡ a → Run (IsMoving name beside backup) (IsNotMoved backup twice) a b
run_not_moved name beside backup twice a b same = run_none same (λ s. inl (λ n. refl))

-- what is said where no call failed is said where fewer calls are asked of
pub new_calmer : (name bytes : List ℕ) (times calm calm' : Bool) → (calm' ≡ true → calm ≡ true) → (s t : State) → IsNew name bytes times calm s t → IsNew name bytes times calm' s t
new_calmer name bytes times calm calm' calmer s t new =
    let f = new.2 in
    let like = f.2.1 in
    (new.0, new.1, (f.0, f.1, (f.2.0, record { same_mode = like.same_mode; same_times = like.same_times; same_owner = λ yes. like.same_owner (calmer yes) }, f.2.2)))

pub file_calmer : (name bytes : List ℕ) (times calm calm' : Bool) → (calm' ≡ true → calm ≡ true) → (s t : State) → (t.at name ≡ s.at name) ⊎ IsNew name bytes times calm s t → (t.at name ≡ s.at name) ⊎ IsNew name bytes times calm' s t
file_calmer name bytes times calm calm' calmer s t (inl same) = inl same
file_calmer name bytes times calm calm' calmer s t (inr new) = inr (new_calmer name bytes times calm calm' calmer s t new)

pub putting_calmer : (name beside : List ℕ) (backup : Option (List ℕ)) (bytes : List ℕ) (times calm calm' : Bool) → (calm' ≡ true → calm ≡ true) → (s t : State) → IsPutting name beside backup bytes times calm s t → IsPutting name beside backup bytes times calm' s t
putting_calmer name beside backup bytes times calm calm' calmer s t h = record { file = file_calmer name bytes times calm calm' calmer s t h.file; others = h.others }

-- where the name is free the step was done, and where it is taken nothing
pub moves_if_free : (name : List ℕ) (step : State → State → Type 0) (a b : List State) (did : Bool) → did ≡ true → MovesIfFree name step a b did → Moves step a b
moves_if_free name step a b true is m = m
moves_if_free name step a b false is m = cc

pub not_free : (name : List ℕ) (step : State → State → Type 0) (a b : List State) (did : Bool) → did ≡ false → MovesIfFree name step a b did → (b ≡ a) × Now a (λ s. s.at name ≢ None)
not_free name step a b true is m = cc
not_free name step a b false is m = m

-- what was taken is taken in the state that was
pub now_taken : (k : List ℕ) (backup : Option (List ℕ)) → backup ≡ Some k → (a : List State) → Now a (λ s. s.at k ≢ None) → Now a (λ s. (b : List ℕ) → backup ≡ Some b → s.at b ≢ None)
now_taken k backup is [] now = tt
now_taken k backup is (s ∷ past) now = λ b e. let same : b ≡ k = cc in let P : List ℕ → Type 0 = λ x. s.at x ≢ None in subst P (sym same) now

-- the new file has its bytes
pub record IsFilled (beside bytes : List ℕ) (s t : State) : Type 0 where
  pub file : Holds t beside (λ f. f.bytes ≡ bytes)
  pub others : Elsewhere beside s t

-- and is like the old one
pub record IsReadyIf (kept : Bool) (name beside bytes : List ℕ) (times calm : Bool) (s t : State) : Type 0 where
  pub file : (old : Entry) × (s.at name ≡ Some old)
      × Holds t beside (λ f. (f.bytes ≡ bytes) × IsLike times calm old f × (kept ≡ true → f.kept ≡ true))
  pub others : Elsewhere beside s t

filled : (beside bytes : List ℕ) (s t u : State) → (t ≡ s) × Holds s beside (λ f. f.bytes ≡ []) → IsAppended beside bytes t u → IsFilled beside bytes s u
filled beside bytes s t u begun a =
    let f = begun.1 in
    let there : t.at beside ≡ Some f.0 = ap (λ (x : State). x.at beside) begun.0 ∙ f.1 in
    let g = a.file f.0 there in
    record {
      file = (g.0, g.1, g.2.0 ∙ ap (λ h. h ++ bytes) f.2);
      others = λ n ne. a.others n ne ∙ ap (λ (x : State). x.at n) begun.0;
    }

pub run_filled : (beside bytes : List ℕ) (a b : List State) → Now a (λ s. Holds s beside (λ f. f.bytes ≡ []))
    → Run (Elsewhere beside) (IsAppended beside bytes) a b → Run (Elsewhere beside) (IsFilled beside bytes) a b
run_filled beside bytes a b empty run =
    run_then (run_begin (Elsewhere beside) (λ s. Holds s beside (λ f. f.bytes ≡ [])) a empty) run (λ s t h. h)
    (λ s t u begun others n ne. others n ne ∙ ap (λ (x : State). x.at n) begun.0) (filled beside bytes)

ready : (name beside bytes : List ℕ) (times calm : Bool) → name ≢ beside → (s t u : State) → IsFilled beside bytes s t → HasAccess name beside times calm t u → IsReadyIf false name beside bytes times calm s u
ready name beside bytes times calm apart s t u x y =
    let f = x.file in
    let h = y.file f.0 f.1 in
    record {
      file = (h.0, sym (x.others name apart) ∙ h.1, (h.2.0, h.2.1, (h.2.2.0 ∙ f.2, h.2.2.1, λ no. cc)));
      others = elsewhere_then beside s t u x.others y.others;
    }

pub run_ready : (name beside bytes : List ℕ) (times calm : Bool) (a b c : List State) → name ≢ beside → Run (Elsewhere beside) (IsFilled beside bytes) a b
    → Run (Elsewhere beside) (HasAccess name beside times calm) b c → Run (Elsewhere beside) (IsReadyIf false name beside bytes times calm) a c
run_ready name beside bytes times calm a b c apart first second =
    run_then first second (λ s t h. h) (λ s t u x y. elsewhere_then beside s t u x.others y) (ready name beside bytes times calm apart)

synced : (name beside bytes : List ℕ) (times calm : Bool) (s t u : State) → IsReadyIf false name beside bytes times calm s t → Syncs beside t u → IsReadyIf true name beside bytes times calm s u
synced name beside bytes times calm s t u x y =
    let f = x.file.2 in
    let same : y.file.0 ≡ f.0 = cc in
    let g = y.file.2 in
    let like = f.2.1 in
    record {
      file = (
        x.file.0,
        x.file.1,
        (
          g.0,
          g.1,
          (
            g.2.bytes ∙ ap (λ (h : Entry). h.bytes) same ∙ f.2.0,
            record {
              same_mode = g.2.mode ∙ ap (λ (h : Entry). h.mode) same ∙ like.same_mode;
              same_times = λ yes. g.2.times ∙ ap (λ (h : Entry). h.times) same ∙ like.same_times yes;
              same_owner = λ yes. g.2.owner ∙ ap (λ (h : Entry). h.owner) same ∙ like.same_owner yes;
            },
            λ yes. g.2.kept,
          ),
        ),
      );
      others = elsewhere_then beside s t u x.others y.others;
    }

pub run_synced : (name beside bytes : List ℕ) (times calm : Bool) (a b c : List State) → Run (Elsewhere beside) (IsReadyIf false name beside bytes times calm) a b
    → Moves (Syncs beside) b c → Run (Elsewhere beside) (IsReadyIf true name beside bytes times calm) a c
run_synced name beside bytes times calm a b c run m =
    run_step (Syncs beside) run m (λ s t h. h) (λ s t u x y. elsewhere_then beside s t u x.others y.others) (synced name beside bytes times calm)

-- the old one is there
pub ready_there : (name beside bytes : List ℕ) (times calm : Bool) (a b : List State) → name ≢ beside → Run (Elsewhere beside) (IsReadyIf true name beside bytes times calm) a b → Now b (IsThere name)
ready_there name beside bytes times calm a b apart run =
    run_now (λ s. ⊤) (IsThere name) a b (now_any a) run (λ s t any x none. let is = x.file.1 in let same = x.others name apart in cc)

-- while only the file beside is another, the old one is there
pub putting_before : (name beside : List ℕ) (backup : Option (List ℕ)) (bytes : List ℕ) (times calm : Bool) → name ≢ beside → (s t : State) → Elsewhere beside s t → IsPutting name beside backup bytes times calm s t
putting_before name beside backup bytes times calm apart s t others = record { file = inl (others name apart); others = λ n ne ne' fresh. others n ne' }

-- the old one, or the new one that was ready
new_or_old : (name beside bytes : List ℕ) (times calm : Bool) → name ≢ beside → (s t u : State) → IsReadyIf true name beside bytes times calm s t → (u.at name ≡ t.at name) ⊎ (u.at name ≡ t.at beside)
    → (u.at name ≡ s.at name) ⊎ IsNew name bytes times calm s u
new_or_old name beside bytes times calm apart s t u x (inl same) = inl (same ∙ x.others name apart)
new_or_old name beside bytes times calm apart s t u x (inr new) =
    let f = x.file.2 in inr (x.file.0, x.file.1, (f.0, new ∙ f.1, (f.2.0, f.2.1, f.2.2 refl)))

putting_after : (name beside : List ℕ) (backup : Option (List ℕ)) (bytes : List ℕ) (times calm : Bool) → name ≢ beside → (s t u : State) → IsReadyIf true name beside bytes times calm s t
    → IsMoving name beside backup t u → IsPutting name beside backup bytes times calm s u
putting_after name beside backup bytes times calm apart s t u x y = record {
  file = new_or_old name beside bytes times calm apart s t u x y.file;
  others = λ n ne ne' fresh. y.others n ne ne' (free_before backup s t n (x.others n ne') fresh) ∙ x.others n ne';
}

pub run_put : (name beside : List ℕ) (backup : Option (List ℕ)) (bytes : List ℕ) (times calm : Bool) (a b c : List State) → name ≢ beside → (backup ≡ Some beside → ⊥)
    → Run (Elsewhere beside) (IsReadyIf true name beside bytes times calm) a b
    → Run (IsMoving name beside backup) (IsMoved name beside backup) b c → Run (IsPutting name beside backup bytes times calm) (IsPut name beside backup bytes times calm) a c
run_put name beside backup bytes times calm a b c apart apart' first second =
    run_then first second (putting_before name beside backup bytes times calm apart) (putting_after name beside backup bytes times calm apart)
    (λ s t u x y.
    let f = x.file.2 in
    record {
      file = (x.file.0, x.file.1, (f.0, y.file ∙ f.1, (f.2.0, f.2.1, f.2.2 refl)));
      gone = y.gone;
      kept_as = λ k e. y.kept_as k e ∙ x.others name apart;
      was_free = λ k e. sym (x.others k (λ same. apart' (e ∙ ap (λ (n : List ℕ). Some n) same))) ∙ y.was_free k e;
      others = λ n ne ne' no. y.others n ne ne' no ∙ x.others n ne';
    })

not_put : (name beside : List ℕ) (backup : Option (List ℕ)) (bytes : List ℕ) (times calm : Bool) (twice twice' : Type 0) → (twice → twice') → (s t u : State) → IsReadyIf true name beside bytes times calm s t
    → IsNotMoved backup twice t u → IsNotPut beside backup twice' s u
not_put name beside backup bytes times calm twice twice' more s t u x (inl same) = inl (λ n ne. same n ∙ x.others n ne)
not_put name beside backup bytes times calm twice twice' more s t u x (inr (others, both)) =
    inr (λ n ne fresh. others n (free_before backup s t n (x.others n ne) fresh) ∙ x.others n ne, more both)

pub run_not_put : (name beside : List ℕ) (backup : Option (List ℕ)) (bytes : List ℕ) (times calm calm' : Bool) (twice twice' : Type 0) (a b c : List State) → name ≢ beside
    → (calm' ≡ true → calm ≡ true) → (twice → twice')
    → Run (Elsewhere beside) (IsReadyIf true name beside bytes times calm) a b
    → Run (IsMoving name beside backup) (IsNotMoved backup twice) b c → Run (IsPutting name beside backup bytes times calm') (IsNotPut beside backup twice') a c
run_not_put name beside backup bytes times calm calm' twice twice' a b c apart calmer more first second =
    run_then first second (putting_before name beside backup bytes times calm' apart)
    (λ s t u x y. putting_calmer name beside backup bytes times calm calm' calmer s u (putting_after name beside backup bytes times calm apart s t u x y))
    (not_put name beside backup bytes times calm twice twice' more)

-- the counts are those of the file's access, at Ok
pub put_done : {T E : Type 0} (r : Result T E) (name beside : List ℕ) (backup : Option (List ℕ)) (bytes : List ℕ) (times : Bool) (a b c : List State) (f g h k : ℕ) → name ≢ beside → (backup ≡ Some beside → ⊥)
    → g ≡ f → Run (Elsewhere beside) (IsReadyIf true name beside bytes times (none_failed g h)) a b
    → OnOk r (Run (IsMoving name beside backup) (IsMoved name beside backup) b c) → (j : ℕ) → j ≡ h → OnOk r (k ≡ j)
    → OnOk r (Run (IsPutting name beside backup bytes times (none_failed f k)) (IsPut name beside backup bytes times (none_failed f k)) a c)
put_done (Ok x) name beside backup bytes times a b c f g h k apart apart' e ready run j e' same =
    let P : Bool → Type 0 = λ calm. Run (IsPutting name beside backup bytes times calm) (IsPut name beside backup bytes times calm) a c in
    subst P (calm_same f g h k e (same ∙ e')) (run_put name beside backup bytes times (none_failed g h) a b c apart apart' ready run)
put_done (Err x) name beside backup bytes times a b c f g h k apart apart' e ready run j e' same = tt

pub put_failed : {T E : Type 0} (r : Result T E) (name beside : List ℕ) (backup : Option (List ℕ)) (bytes : List ℕ) (times : Bool) (a b c : List State) (f g h k : ℕ) → name ≢ beside
    → g ≡ f → FailsOnceOrNot g h → Run (Elsewhere beside) (IsReadyIf true name beside bytes times (none_failed g h)) a b
    → (j : ℕ) → j ≡ h → OnErr r (Run (IsMoving name beside backup) (IsNotMoved backup (FailedTwice j k)) b c) → OnErr r (FailsOrNot j k)
    → OnErr r (Run (IsPutting name beside backup bytes times (none_failed f k)) (IsNotPut beside backup (FailedTwice f k)) a c)
put_failed (Ok x) name beside backup bytes times a b c f g h k apart e once ready j e' run rises = tt
put_failed (Err x) name beside backup bytes times a b c f g h k apart e once ready j e' run rises =
    let P : ℕ → Type 0 = λ n. Run (IsMoving name beside backup) (IsNotMoved backup (FailedTwice n k)) b c in
    let Q : ℕ → Type 0 = λ n. FailsOrNot n k in
    run_not_put name beside backup bytes times (none_failed g h) (none_failed f k) (FailedTwice h k) (FailedTwice f k) a b c apart (calmer_before f g h k e once (subst Q e' rises)) (twice_since f g h k e once) ready (subst P e' run)
