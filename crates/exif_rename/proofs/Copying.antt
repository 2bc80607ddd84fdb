-- What the calls make of the states by which a file is copied.
use Rattle.std.proofs.Common.{◌≡◌, ◌≢◌, ◌⊎◌, ℕ, List, Bool, true, false, Some, None, Result, Ok, Err, is_ok, is_err, ◌≤◌, arith, subst, sym, ap, refl, ◌∙◌, inl, inr}
use Rattle.std.specs.Prelude.{IfErr}
use Rattle.exif_files.specs.States.{Entry, State, Holds, Elsewhere, Now, Run}
use Rattle.exif_files.specs.Steps.{Copies, HasOwner, HasMode, HasTimes, Syncs, Settles, Moves, Does, count_after}
use Rattle.exif_files.specs.Written.{FailedToRemove, IsCreatedForGood, IsMade, IsMadeOrHeld, IsNotCreated, IsWholeNew}
use Rattle.exif_files.specs.declared.failure.WriteError.{WriteError}
use Rattle.exif_files.proofs.Runs.{run_begin, run_none, run_one, run_then, run_step, run_stay, run_weaker}
use Rattle.exif_files.proofs.Filling.{elsewhere_then}
use Rattle.exif_rename.specs.Moves.{IsAlike, IsCaused, IsCopied, IsCopiedForGood, IsCopy, IsCopyOrHeld, IsNotCopied, IsWholeCopy}
use Rattle.exif_rename.specs.MoveParts.{FailuresStay, KeepsBytes, MayBeAlike, MayCopy}
use Rattle.exif_rename.specs.declared.moving.Attributes.{Attributes}
use Rattle.exif_rename.specs.declared.moving.Attributes.TheVariants.{Kept}

-- a run that begins in a state of which something is known
pub run_knowing : {P Q P' Q' : State → State → Type 0} (X : State → Type 0) (a b : List State) → Now a X → Run P Q a b
    → ((s t : State) → X s → P s t → P' s t) → ((s t : State) → X s → Q s t → Q' s t) → Run P' Q' a b
run_knowing {P = P} {Q = Q} {P' = P'} {Q' = Q'} X a b now run p q =
    run_then (run_begin P' X a now) run (λ s t h. h)
    (λ s t u begun h. p s u begun.1 (subst (λ (x : State). P x u) begun.0 h))
    (λ s t u begun h. q s u begun.1 (subst (λ (x : State). Q x u) begun.0 h))

-- two things that an error says
pub if_err_both : {T E : Type 0} (P Q R : E → Type 0) (r : Result T E) → IfErr r P → IfErr r Q → ((e : E) → P e → Q e → R e) → IfErr r R
if_err_both P Q R (Ok x) p q f = tt
if_err_both P Q R (Err e) p q f = f e p q

-- ---- the bytes

abbrev pub HasFile : List ℕ → List ℕ → State → Type 0
HasFile from bytes s = Holds s from (λ f. f.bytes ≡ bytes)

copy_made : (from to bytes : List ℕ) (mode : ℕ) (s t : State) → HasFile from bytes s → IsMade to bytes mode s t → IsCopy from to s t
copy_made from to bytes mode s t was made =
    let g = made.1 in (made.0, (was.0, was.1, (g.0, g.1, g.2.0 ∙ sym was.2)))

whole_made : (from to bytes : List ℕ) (mode : ℕ) (failed : Type 0) (s t : State) → HasFile from bytes s → IsWholeNew to bytes mode failed s t → IsWholeCopy from to failed s t
whole_made from to bytes mode failed s t was whole = record { file = file whole.file; others = whole.others }
  where
    file : (t.at to ≡ s.at to) ⊎ IsMadeOrHeld to bytes mode failed s t → (t.at to ≡ s.at to) ⊎ IsCopyOrHeld from to failed s t
    file (inl same) = inl same
    file (inr (inl made)) = inr (inl (copy_made from to bytes mode s t was made))
    file (inr (inr held)) = inr (inr held)

pub run_made : (from to bytes : List ℕ) (mode : ℕ) (a b c : List State) (f f' f'' : ℕ) → b ≡ a → f' ≡ f → Now a (HasFile from bytes)
    → Run (IsWholeNew to bytes mode (count_after true f' ≤ f'')) (IsCreatedForGood to bytes mode) b c → Run (IsWholeCopy from to (count_after true f ≤ f'')) (IsCopied from to) a c
run_made from to bytes mode a b c f f' f'' same count was run =
    let P : List State → ℕ → Type 0 = λ xs n. Run (IsWholeNew to bytes mode (count_after true n ≤ f'')) (IsCreatedForGood to bytes mode) xs c in
    run_knowing (HasFile from bytes) a c was (subst (P a) count (subst (λ (xs : List State). P xs f') same run)) (whole_made from to bytes mode (count_after true f ≤ f''))
    (λ s t was made. record { copy = copy_made from to bytes mode s t was made.created.file; others = made.created.others })

pub run_not_made : (from to bytes : List ℕ) (mode : ℕ) (e : WriteError) (a b c : List State) (f f' f'' : ℕ) → b ≡ a → f' ≡ f → Now a (HasFile from bytes)
    → Run (IsWholeNew to bytes mode (count_after true f' ≤ f'')) (IsNotCreated to bytes mode (count_after true f' ≤ f'') (FailedToRemove e f' f'')) b c → IsCaused e f' f''
    → Run (IsWholeCopy from to (count_after true f ≤ f'')) (IsNotCopied from to (IsCaused e f f'') (count_after true f ≤ f'') (FailedToRemove e f f'')) a c
run_not_made from to bytes mode e a b c f f' f'' same count was run cause =
    let P : List State → ℕ → Type 0 = λ xs n. Run (IsWholeNew to bytes mode (count_after true n ≤ f'')) (IsNotCreated to bytes mode (count_after true n ≤ f'') (FailedToRemove e n f'')) xs c in
    run_knowing (HasFile from bytes) a c was (subst (P a) count (subst (λ (xs : List State). P xs f') same run)) (whole_made from to bytes mode (count_after true f ≤ f'')) left
  where
    caused : IsCaused e f f''
    caused = let Q : ℕ → Type 0 = λ n. IsCaused e n f'' in subst Q count cause

    left : (s t : State) → HasFile from bytes s → IsNotCreated to bytes mode (count_after true f ≤ f'') (FailedToRemove e f f'') s t → IsNotCopied from to (IsCaused e f f'') (count_after true f ≤ f'') (FailedToRemove e f f'') s t
    left s t was (inl same) = inl (same, caused)
    left s t was (inr (inl made)) = inr (inl (record { copy = copy_made from to bytes mode s t was made.file; others = made.others }))
    left s t was (inr (inr (whole, both))) = inr (inr (whole_made from to bytes mode (count_after true f ≤ f'') s t was whole, both))

-- what is said where a call failed is said where more failed
pub copy_more : (from to : List ℕ) (failed failed' : Type 0) → (failed → failed') → (s t : State) → IsWholeCopy from to failed s t → IsWholeCopy from to failed' s t
copy_more from to failed failed' more s t x = record { file = file x.file; others = x.others }
  where
    file : (t.at to ≡ s.at to) ⊎ IsCopyOrHeld from to failed s t → (t.at to ≡ s.at to) ⊎ IsCopyOrHeld from to failed' s t
    file (inl same) = inl same
    file (inr (inl copy)) = inr (inl copy)
    file (inr (inr (held, yes_))) = inr (inr (held, more yes_))

pub stay_call : {T E : Type 0} (r : Result T E) (f f' : ℕ) → f' ≡ count_after (is_err r) f → FailuresStay f f'
stay_call (Ok x) f f' e n more = omega (arith, e, more)
stay_call (Err x) f f' e n more = omega (arith, e, more)

pub stay_then : (f g h : ℕ) → FailuresStay f g → FailuresStay g h → FailuresStay f h
stay_then f g h first second n more = second n (first n more)

-- ---- the attributes

keeps_then : (name : List ℕ) (s t u : State) → KeepsBytes name s t → KeepsBytes name t u → KeepsBytes name s u
keeps_then name s t u x y = record {
  file = λ g is. let h = x.file g is in let k = y.file h.0 h.1 in (k.0, k.1, k.2 ∙ h.2);
  others = elsewhere_then name s t u x.others y.others;
}

copies_keep : (Has : Entry → Entry → Entry → Type 0) (from to : List ℕ) (s t : State) → Copies Has from to s t → KeepsBytes to s t
copies_keep Has from to s t h = record {
  file = λ g is. let same : h.file.0 ≡ g = cc in (h.file.4.0, h.file.4.1, h.file.4.2.0 ∙ ap (λ (x : Entry). x.bytes) same);
  others = h.others;
}

may_keep : (Has : Entry → Entry → Entry → Type 0) (from to : List ℕ) (done : Bool) (s t : State) → MayCopy Has from to done s t → KeepsBytes to s t
may_keep Has from to done s t h = record { file = λ g is. let k = h.file g is in (k.0, k.1, k.2.0); others = h.others }

run_may : {T E : Type 0} (r : Result T E) (Has : Entry → Entry → Entry → Type 0) (from to : List ℕ) (a b : List State) (f f' : ℕ) → Does (Copies Has from to) a b f f' r
    → Run (KeepsBytes to) (MayCopy Has from to (is_ok r)) a b
run_may (Ok x) Has from to a b f f' does =
    run_one (Copies Has from to) does.done (copies_keep Has from to)
    (λ s t h. record {
      file = λ g is.
          let same : h.file.0 ≡ g = cc in
          let has = subst (λ (e : Entry). Has e h.file.2 h.file.4.0) same h.file.4.2.1 in
          (h.file.4.0, h.file.4.1, (h.file.4.2.0 ∙ ap (λ (x : Entry). x.bytes) same, λ yes. (h.file.2, h.file.3, has)));
      others = h.others;
    })
run_may (Err e) Has from to a b f f' does =
    run_none does.failed (λ s. record { file = λ g is. (g, is, (refl, λ yes. cc)); others = λ n ne. refl })

alike : (from to : List ℕ) (owner mode times : Bool) (attributes : Attributes) → (attributes ≡ Kept → (owner ≡ true) × (mode ≡ true) × (times ≡ true)) → (s t u v : State)
    → MayCopy HasOwner from to owner s t → MayCopy HasMode from to mode t u → MayCopy HasTimes from to times u v → MayBeAlike from to attributes s v
alike from to owner mode times attributes all s t u v x y z = record {
  file = λ apart g is.
      let h = x.file g is in
      let k = y.file h.0 h.1 in
      let l = z.file k.0 k.1 in (
        l.0,
        l.1,
        (
          l.2.0 ∙ k.2.0 ∙ h.2.0,
          λ kept.
              let did = all kept in
              let o = h.2.1 did.0 in
              let m = k.2.1 did.1 in
              let d = l.2.1 did.2 in
              let there : t.at from ≡ s.at from = x.others from apart in
              let there' : u.at from ≡ t.at from = y.others from apart in
              let one : m.0 ≡ o.0 = cc in
              let two : d.0 ≡ o.0 = cc in (
                o.0,
                o.1,
                record {
                  mode = d.2.1 ∙ m.2.0 ∙ ap (λ (e : Entry). e.mode) one;
                  owner = d.2.2 ∙ m.2.1 ∙ o.2;
                  times = d.2.0 ∙ ap (λ (e : Entry). e.times) two;
                },
              ),
        ),
      );
  others = elsewhere_then to s u v (elsewhere_then to s t u x.others y.others) z.others;
}

pub run_alike : {T E : Type 0} (r1 r2 r3 : Result T E) (from to : List ℕ) (a b c d : List State) (f g h k : ℕ) (attributes : Attributes)
    → (attributes ≡ Kept → (is_ok r1 ≡ true) × (is_ok r2 ≡ true) × (is_ok r3 ≡ true))
    → Does (Copies HasOwner from to) a b f g r1 → Does (Copies HasMode from to) b c g h r2 → Does (Copies HasTimes from to) c d h k r3
    → Run (KeepsBytes to) (MayBeAlike from to attributes) a d
run_alike r1 r2 r3 from to a b c d f g h k attributes all owner mode times =
    let two : Run (KeepsBytes to) (λ s u. (t : State) × MayCopy HasOwner from to (is_ok r1) s t × MayCopy HasMode from to (is_ok r2) t u) a c =
    run_then (run_may r1 HasOwner from to a b f g owner) (run_may r2 HasMode from to b c g h mode) (λ s t x. x)
    (λ s t u x y. keeps_then to s t u (may_keep HasOwner from to (is_ok r1) s t x) y)
    (λ s t u x y. (t, x, y)) in
    run_then two (run_may r3 HasTimes from to c d h k times) (λ s t x. x)
    (λ s t u x y. keeps_then to s t u (keeps_then to s x.0 t (may_keep HasOwner from to (is_ok r1) s x.0 x.1) (may_keep HasMode from to (is_ok r2) x.0 t x.2)) y)
    (λ s t u x y. alike from to (is_ok r1) (is_ok r2) (is_ok r3) attributes all s x.0 t u x.1 x.2 y)

-- ---- the whole copy

copied_still : (from to : List ℕ) (s t u : State) → IsCopied from to s t → KeepsBytes to t u → IsCopied from to s u
copied_still from to s t u x y =
    let f = x.copy.1 in
    let g = f.2 in
    let h = y.file g.0 g.1 in
    record { copy = (x.copy.0, (f.0, f.1, (h.0, h.1, h.2 ∙ g.2))); others = elsewhere_then to s t u x.others y.others }

copied_whole : (from to : List ℕ) (failed : Type 0) (s t : State) → IsCopied from to s t → IsWholeCopy from to failed s t
copied_whole from to failed s t x = record { file = inr (inl x.copy); others = λ n ne fresh. x.others n ne }

apart : (from to : List ℕ) (s t : State) → IsCopied from to s t → from ≢ to
apart from to s t x same = let here : s.at from ≡ s.at to = ap s.at same in let some = x.copy.1.1 in let none = x.copy.0 in cc

-- a copy that may be like the file
pub record IsCopiedAlike (kept : Bool) (from to : List ℕ) (attributes : Attributes) (s t : State) : Type 0 where
  pub free : s.at to ≡ None
  pub file : (f : Entry) × (s.at from ≡ Some f)
      × Holds t to (λ g. (g.bytes ≡ f.bytes) × (attributes ≡ Kept → IsAlike f g) × (kept ≡ true → g.kept ≡ true))
  pub others : Elsewhere to s t

copied_alike : (from to : List ℕ) (attributes : Attributes) (s t u : State) → IsCopied from to s t → MayBeAlike from to attributes t u → IsCopiedAlike false from to attributes s u
copied_alike from to attributes s t u x y =
    let f = x.copy.1 in
    let g = f.2 in
    let h = y.file (apart from to s t x) g.0 g.1 in
    record {
      free = x.copy.0;
      file = (
        f.0,
        f.1,
        (
          h.0,
          h.1,
          (
            h.2.0 ∙ g.2,
            λ kept.
                let o = h.2.1 kept in
                let there : t.at from ≡ s.at from = x.others from (apart from to s t x) in
                let some = f.1 in
                let one : o.0 ≡ f.0 = cc in
                subst (λ (e : Entry). IsAlike e h.0) one o.2,
            λ no. cc,
          ),
        ),
      );
      others = elsewhere_then to s t u x.others y.others;
    }

pub run_copied_alike : (from to : List ℕ) (failed failed' : Type 0) → (failed → failed') → (attributes : Attributes) (a b c : List State) → Run (IsWholeCopy from to failed) (IsCopied from to) a b
    → Run (KeepsBytes to) (MayBeAlike from to attributes) b c → Run (IsWholeCopy from to failed') (IsCopiedAlike false from to attributes) a c
run_copied_alike from to failed failed' more attributes a b c first second =
    run_then first second (copy_more from to failed failed' more) (λ s t u x y. copied_whole from to failed' s u (copied_still from to s t u x y)) (copied_alike from to attributes)

as_copied : (kept : Bool) (from to : List ℕ) (attributes : Attributes) (s t : State) → IsCopiedAlike kept from to attributes s t → IsCopied from to s t
as_copied kept from to attributes s t x =
    let f = x.file in record { copy = (x.free, (f.0, f.1, (f.2.0, f.2.1, f.2.2.0))); others = x.others }

synced : (from to : List ℕ) (attributes : Attributes) (s t u : State) → IsCopiedAlike false from to attributes s t → Syncs to t u → IsCopiedAlike true from to attributes s u
synced from to attributes s t u x y =
    let f = x.file in
    let g = f.2 in
    let same : y.file.0 ≡ g.0 = cc in
    let h = y.file.2 in
    record {
      free = x.free;
      file = (
        f.0,
        f.1,
        (
          h.0,
          h.1,
          (
            h.2.bytes ∙ ap (λ (e : Entry). e.bytes) same ∙ g.2.0,
            λ kept.
                let like = g.2.1 kept in
                record {
                  mode = h.2.mode ∙ ap (λ (e : Entry). e.mode) same ∙ like.mode;
                  owner = h.2.owner ∙ ap (λ (e : Entry). e.owner) same ∙ like.owner;
                  times = h.2.times ∙ ap (λ (e : Entry). e.times) same ∙ like.times;
                },
            λ yes. h.2.kept,
          ),
        ),
      );
      others = elsewhere_then to s t u x.others y.others;
    }

pub run_copy_synced : (from to : List ℕ) (failed : Type 0) (attributes : Attributes) (a b c : List State) → Run (IsWholeCopy from to failed) (IsCopiedAlike false from to attributes) a b → Moves (Syncs to) b c
    → Run (IsWholeCopy from to failed) (IsCopiedAlike true from to attributes) a c
run_copy_synced from to failed attributes a b c run m =
    run_step (Syncs to) run m (λ s t x. x)
    (λ s t u x y. copied_whole from to failed s u (as_copied true from to attributes s u (synced from to attributes s t u x y))) (synced from to attributes)

settled : (from to : List ℕ) (attributes : Attributes) (s t u : State) → IsCopiedAlike true from to attributes s t → Settles to t u → IsCopiedForGood from to attributes s u
settled from to attributes s t u x y =
    let f = x.file in
    let g = f.2 in
    record {
      free = x.free;
      file = (f.0, f.1, (g.0, y.same to ∙ g.1, (g.2.0, g.2.1, g.2.2 refl)));
      others = λ n ne. y.same n ∙ x.others n ne;
      settled = y.settled;
    }

pub for_good_copied : (from to : List ℕ) (attributes : Attributes) (s t : State) → IsCopiedForGood from to attributes s t → IsCopied from to s t
for_good_copied from to attributes s t x =
    let f = x.file in record { copy = (x.free, (f.0, f.1, (f.2.0, f.2.1, f.2.2.0))); others = x.others }

pub run_copy_settled : (from to : List ℕ) (failed : Type 0) (attributes : Attributes) (a b c : List State) → Run (IsWholeCopy from to failed) (IsCopiedAlike true from to attributes) a b → Moves (Settles to) b c
    → Run (IsWholeCopy from to failed) (IsCopiedForGood from to attributes) a c
run_copy_settled from to failed attributes a b c run m =
    run_step (Settles to) run m (λ s t x. x)
    (λ s t u x y. copied_whole from to failed s u (for_good_copied from to attributes s u (settled from to attributes s t u x y))) (settled from to attributes)

-- the disk may not have all of the copy
pub run_copy_unsure : (kept : Bool) (from to : List ℕ) (failed : Type 0) (attributes : Attributes) (cause twice : Type 0) (a b c : List State) → Run (IsWholeCopy from to failed) (IsCopiedAlike kept from to attributes) a b → c ≡ b
    → Run (IsWholeCopy from to failed) (IsNotCopied from to cause failed twice) a c
run_copy_unsure kept from to failed attributes cause twice a b c run same =
    run_weaker (run_stay run same) (λ s t x. x) (λ s t x. inr (inl (as_copied kept from to attributes s t x)))
