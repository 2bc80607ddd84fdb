-- What the calls make of the states by which a new file is made.
use Rattle.std.proofs.Common.{◌≡◌, ◌≢◌, ◌⊎◌, ℕ, List, [], ◌∷◌, ◌++◌, subst, None, Some, true, sym, ap, ◌∙◌, inl, inr, Result, Ok, Err, OnOk, OnErr}
use Rattle.exif_files.specs.States.{Entry, State, Holds, Elsewhere, Now, Run}
use Rattle.exif_files.specs.Steps.{Creates, Syncs, Removes, Settles, Moves, Does}
use Rattle.exif_files.specs.Names.{IsHidden}
use Rattle.exif_files.specs.NewNames.{IsNamedTwice, IsRenamed, IsRenaming, IsNotRenamed}
use Rattle.exif_files.specs.Written.{IsMade, IsMadeOrHeld, IsWholeNew, IsCreated, IsCreatedForGood, IsNotCreated}
use Rattle.exif_files.specs.Parts.{IsAppended, IsPuttingNew, IsPutNew, IsNotPutNew}
use Rattle.exif_files.proofs.Runs.{run_begin, run_one, run_then, run_step, run_stay, run_weaker}
use Rattle.exif_files.proofs.Counts.{same_or_other}
use Rattle.exif_files.proofs.Filling.{elsewhere_then}
use Rattle.exif_files.proofs.Whole.{not_beside}

-- the file that was made has no bytes, and its mode
pub made_new : (beside : List ℕ) (mode : ℕ) (a b : List State) → Moves (Creates beside mode) a b → Now b (λ s. Holds s beside (λ f. (f.bytes ≡ []) × (f.mode ≡ mode)))
made_new beside mode [] b m = let P : List State → Type 0 = λ b. Now b (λ s. Holds s beside (λ f. (f.bytes ≡ []) × (f.mode ≡ mode))) in subst P (sym m) tt
made_new beside mode (s ∷ past) b m = let P : List State → Type 0 = λ b. Now b (λ s. Holds s beside (λ f. (f.bytes ≡ []) × (f.mode ≡ mode))) in subst P (sym m.2) m.1.file

module _ (name beside bytes : List ℕ) (mode : ℕ) (apart : name ≢ beside) where
  -- the new file has its bytes
  pub record IsFilledNew (s t : State) : Type 0 where
    pub file : Holds t beside (λ f. (f.bytes ≡ bytes) × (f.mode ≡ mode))
    pub others : Elsewhere beside s t

  -- and the disk has it
  pub record IsReadyNew (s t : State) : Type 0 where
    pub file : Holds t beside (λ f. (f.bytes ≡ bytes) × (f.mode ≡ mode) × (f.kept ≡ true))
    pub others : Elsewhere beside s t

  abbrev WasMade : State → Type 0
  WasMade s = Holds s beside (λ f. (f.bytes ≡ []) × (f.mode ≡ mode))

  filled_new : (s t u : State) → (t ≡ s) × WasMade s → IsAppended beside bytes t u → IsFilledNew s u
  filled_new s t u begun a =
      let f = begun.1 in
      let there : t.at beside ≡ Some f.0 = ap (λ (x : State). x.at beside) begun.0 ∙ f.1 in
      let g = a.file f.0 there in
      record {
        file = (g.0, g.1, (g.2.0 ∙ ap (λ h. h ++ bytes) f.2.0, g.2.1 ∙ f.2.1));
        others = λ n ne. a.others n ne ∙ ap (λ (x : State). x.at n) begun.0;
      }

  run_filled_new : (a b : List State) → Now a WasMade → Run (Elsewhere beside) (IsAppended beside bytes) a b → Run (Elsewhere beside) IsFilledNew a b
  run_filled_new a b made run =
      run_then (run_begin (Elsewhere beside) WasMade a made) run (λ s t h. h)
      (λ s t u begun others n ne. others n ne ∙ ap (λ (x : State). x.at n) begun.0) filled_new

  ready_new : (s t u : State) → IsFilledNew s t → Syncs beside t u → IsReadyNew s u
  ready_new s t u x y =
      let f = x.file in
      let same : y.file.0 ≡ f.0 = cc in
      let g = y.file.2 in
      record {
        file = (g.0, g.1, (g.2.bytes ∙ ap (λ (h : Entry). h.bytes) same ∙ f.2.0, g.2.mode ∙ ap (λ (h : Entry). h.mode) same ∙ f.2.1, g.2.kept));
        others = elsewhere_then beside s t u x.others y.others;
      }

  pub run_ready_new : (a b c : List State) → Now a (λ s. Holds s beside (λ f. (f.bytes ≡ []) × (f.mode ≡ mode))) → Run (Elsewhere beside) (IsAppended beside bytes) a b
      → Moves (Syncs beside) b c → Run (Elsewhere beside) IsReadyNew a c
  run_ready_new a b c made run m =
      run_step (Syncs beside) (run_filled_new a b made run) m (λ s t h. h) (λ s t u x y. elsewhere_then beside s t u x.others y.others) ready_new

  put_made : (s t u : State) → IsReadyNew s t → t.at name ≡ None → u.at name ≡ t.at beside → IsMade name bytes mode s u
  put_made s t u x free e = (sym (x.others name apart) ∙ free, (x.file.0, e ∙ x.file.1, x.file.2))

  module _ (failed : Type 0) where
    putting_before : (s t : State) → Elsewhere beside s t → IsPuttingNew name beside bytes mode failed s t
    putting_before s t others = record { file = inl (others name apart); others = λ n ne ne'. others n ne' }

    named_file : (s t u : State) → IsReadyNew s t → t.at name ≡ None → (u.at name ≡ t.at beside) ⊎ (Holds u name (λ f. f.bytes ≡ []) × failed) → (u.at name ≡ s.at name) ⊎ IsMadeOrHeld name bytes mode failed s u
    named_file s t u x free (inl e) = inr (inl (put_made s t u x free e))
    named_file s t u x free (inr (empty, yes_)) = inr (inr ((sym (x.others name apart) ∙ free, empty), yes_))

    putting_named : (s t u : State) → IsReadyNew s t → IsNamedTwice beside name failed t u → IsPuttingNew name beside bytes mode failed s u
    putting_named s t u x y = record { file = named_file s t u x y.free y.file; others = λ n ne ne'. y.others n ne ∙ x.others n ne' }

    putting_after : (s t u : State) → IsReadyNew s t → IsRenaming beside name failed t u → IsPuttingNew name beside bytes mode failed s u
    putting_after s t u x (inl same) = record { file = inl (same name ∙ x.others name apart); others = λ n ne ne'. same n ∙ x.others n ne' }
    putting_after s t u x (inr (inl named)) = putting_named s t u x named
    putting_after s t u x (inr (inr y)) = record { file = inr (inl (put_made s t u x y.free y.file)); others = λ n ne ne'. y.others n ne' ne ∙ x.others n ne' }

    not_put_after : (twice : Type 0) (s t u : State) → IsReadyNew s t → IsNotRenamed beside name failed twice t u → IsNotPutNew name beside bytes mode failed twice s u
    not_put_after twice s t u x (inl same) = inl (λ n ne. same n ∙ x.others n ne)
    not_put_after twice s t u x (inr (named, both)) = inr (putting_named s t u x named, both)

    -- only the file beside was changed
    pub run_only_beside : (twice : Type 0) (a b : List State) → Run (Elsewhere beside) (Elsewhere beside) a b → Run (IsPuttingNew name beside bytes mode failed) (IsNotPutNew name beside bytes mode failed twice) a b
    run_only_beside twice a b run = run_weaker run putting_before (λ s t x. inl x)

    -- the name was free, and has the new file now
    pub run_put_new : {T E : Type 0} (r : Result T E) (a b c : List State) → Run (Elsewhere beside) IsReadyNew a b → OnOk r (Run (IsRenaming beside name failed) (IsRenamed beside name) b c)
        → OnOk r (Run (IsPuttingNew name beside bytes mode failed) (IsPutNew name beside bytes mode) a c)
    run_put_new (Ok x) a b c ready run =
        run_then ready run putting_before putting_after
        (λ s t u x y. record { file = put_made s t u x y.free y.file; gone = y.gone; others = λ n ne ne'. y.others n ne' ne ∙ x.others n ne' })
    run_put_new (Err e) a b c ready run = tt

    pub run_not_put_new : {T E : Type 0} (r : Result T E) (twice : Type 0) (a b c : List State) → Run (Elsewhere beside) IsReadyNew a b → OnErr r (Run (IsRenaming beside name failed) (IsNotRenamed beside name failed twice) b c)
        → OnErr r (Run (IsPuttingNew name beside bytes mode failed) (IsNotPutNew name beside bytes mode failed twice) a c)
    run_not_put_new (Err e) twice a b c ready run = run_then ready run putting_before putting_after (not_put_after twice)
    run_not_put_new (Ok x) twice a b c ready run = tt

    module _ (failed' : Type 0) (more : failed → failed') (hidden : IsHidden beside) where
      new_before : (s t : State) → s.at beside ≡ None → Elsewhere beside s t → IsWholeNew name bytes mode failed' s t
      new_before s t free others = record { file = inl (others name apart); others = λ n ne fresh. others n (not_beside None beside hidden s free n fresh) }

      created_run : (a b : List State) → Moves (Creates beside mode) a b → Run (IsWholeNew name bytes mode failed') (Creates beside mode) a b
      created_run a b m = run_one (Creates beside mode) m (λ s t h. new_before s t h.free h.others) (λ s t h. h)

      file_since : (s t u : State) → t.at name ≡ s.at name → (u.at name ≡ t.at name) ⊎ IsMadeOrHeld name bytes mode failed t u → (u.at name ≡ s.at name) ⊎ IsMadeOrHeld name bytes mode failed' s u
      file_since s t u same (inl old) = inl (old ∙ same)
      file_since s t u same (inr (inl new)) = inr (inl (sym same ∙ new.0, new.1))
      file_since s t u same (inr (inr (held, yes_))) = inr (inr ((sym same ∙ held.0, held.1), more yes_))

      file_kept : (s u v : State) → v.at name ≡ u.at name → (u.at name ≡ s.at name) ⊎ IsMadeOrHeld name bytes mode failed' s u → (v.at name ≡ s.at name) ⊎ IsMadeOrHeld name bytes mode failed' s v
      file_kept s u v same (inl old) = inl (same ∙ old)
      file_kept s u v same (inr (inl new)) = let f = new.1 in inr (inl (new.0, (f.0, same ∙ f.1, f.2)))
      file_kept s u v same (inr (inr (held, yes_))) = let f = held.1 in inr (inr ((held.0, (f.0, same ∙ f.1, f.2)), yes_))

      whole_after : (s t u : State) → Creates beside mode s t → IsPuttingNew name beside bytes mode failed t u → IsWholeNew name bytes mode failed' s u
      whole_after s t u x y = record {
        file = file_since s t u (x.others name apart) y.file;
        others = λ n ne fresh. let ne' = not_beside None beside hidden s x.free n fresh in y.others n ne ne' ∙ x.others n ne';
      }

      whole_removed : (s u v : State) → s.at beside ≡ None → IsWholeNew name bytes mode failed' s u → Removes beside u v → IsWholeNew name bytes mode failed' s v
      whole_removed s u v free x y = record {
        file = file_kept s u v (y.others name apart) x.file;
        others = λ n ne fresh. y.others n (not_beside None beside hidden s free n fresh) ∙ x.others n ne fresh;
      }

      -- the new file has the name
      run_created : (a b c : List State) → Moves (Creates beside mode) a b → Run (IsPuttingNew name beside bytes mode failed) (IsPutNew name beside bytes mode) b c
          → Run (IsWholeNew name bytes mode failed') (IsCreated name bytes mode) a c
      run_created a b c m run =
          run_then (created_run a b m) run (λ s t h. h) whole_after
          (λ s t u x y. record {
            file = (sym (x.others name apart) ∙ y.file.0, y.file.1);
            others = λ n ne. elim (same_or_other n beside) [
              | inl e ↦ ap u.at e ∙ y.gone ∙ sym x.free ∙ ap s.at (sym e)
              | inr ne' ↦ y.others n ne ne' ∙ x.others n ne'
            ];
          })

      pub run_new_for_good : (a b c d : List State) → Moves (Creates beside mode) a b → Run (IsPuttingNew name beside bytes mode failed) (IsPutNew name beside bytes mode) b c → Moves (Settles name) c d
          → Run (IsWholeNew name bytes mode failed') (IsCreatedForGood name bytes mode) a d
      run_new_for_good a b c d m run m' =
          run_step (Settles name) (run_created a b c m run) m' (λ s t h. h)
          (λ s t u x y. record { file = inr (inl (x.file.0, (x.file.1.0, y.same name ∙ x.file.1.1, x.file.1.2))); others = λ n ne fresh. y.same n ∙ x.others n ne })
          (λ s t u x y. record { created = record { file = (x.file.0, (x.file.1.0, y.same name ∙ x.file.1.1, x.file.1.2)); others = λ n ne. y.same n ∙ x.others n ne }; settled = y.settled })

      pub run_new_unsettled : (end : Type 0) (a b c d : List State) → Moves (Creates beside mode) a b → Run (IsPuttingNew name beside bytes mode failed) (IsPutNew name beside bytes mode) b c → d ≡ c
          → Run (IsWholeNew name bytes mode failed') (IsNotCreated name bytes mode failed' end) a d
      run_new_unsettled end a b c d m run same = run_weaker (run_stay (run_created a b c m run) same) (λ s t h. h) (λ s t h. inr (inl h))

      -- what was there before the file beside is removed
      abbrev IsBegun : Type 0 → State → State → Type 0
      IsBegun end s u = (s.at beside ≡ None) × (Elsewhere beside s u ⊎ (IsWholeNew name bytes mode failed' s u × end))

      begun_after : (twice end : Type 0) → (twice → end) → (s t u : State) → Creates beside mode s t → IsNotPutNew name beside bytes mode failed twice t u → IsBegun end s u
      begun_after twice end then s t u x (inl y) = (x.free, inl (elsewhere_then beside s t u x.others y))
      begun_after twice end then s t u x (inr (y, both)) = (x.free, inr (whole_after s t u x y, then both))

      begun_new : (twice end : Type 0) → (twice → end) → (a b c : List State) → Moves (Creates beside mode) a b
          → Run (IsPuttingNew name beside bytes mode failed) (IsNotPutNew name beside bytes mode failed twice) b c → Run (IsWholeNew name bytes mode failed') (IsBegun end) a c
      begun_new twice end then a b c m run = run_then (created_run a b m) run (λ s t h. h) whole_after (begun_after twice end then)

      begun_whole : (end : Type 0) (s u : State) → IsBegun end s u → IsWholeNew name bytes mode failed' s u
      begun_whole end s u (free, inl others) = new_before s u free others
      begun_whole end s u (free, inr (whole, both)) = whole

      removed_then : (end : Type 0) (s u v : State) → IsBegun end s u → Removes beside u v → IsNotCreated name bytes mode failed' end s v
      removed_then end s u v (free, inl others) y = inl (λ n. elim (same_or_other n beside) [
        | inl e ↦ ap v.at e ∙ y.gone ∙ sym free ∙ ap s.at (sym e)
        | inr ne ↦ y.others n ne ∙ others n ne
      ])
      removed_then end s u v (free, inr (whole, both)) y = inr (inr (whole_removed s u v free whole y, both))

      -- the file beside was removed; or its removal failed too
      pub run_not_created : {T E : Type 0} (r : Result T E) (twice end : Type 0) → (twice → end) → (a b c d : List State) (f f' : ℕ) → Moves (Creates beside mode) a b
          → Run (IsPuttingNew name beside bytes mode failed) (IsNotPutNew name beside bytes mode failed twice) b c
          → Does (Removes beside) c d f f' r → OnErr r end → Run (IsWholeNew name bytes mode failed') (IsNotCreated name bytes mode failed' end) a d
      run_not_created (Ok x) twice end then a b c d f f' m run does on_failed =
          run_step (Removes beside) (begun_new twice end then a b c m run) does.done (λ s t h. h)
          (λ s u v x y. whole_removed s u v x.0 (begun_whole end s u x) y) (removed_then end)
      run_not_created (Err e) twice end then a b c d f f' m run does on_failed =
          run_weaker (run_stay (begun_new twice end then a b c m run) does.failed) (λ s t h. h)
          (λ s u x. inr (inr (begun_whole end s u x, on_failed)))
