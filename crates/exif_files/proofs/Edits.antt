-- Replacements by the answer of an edit.
use Rattle.std.proofs.Common.{◌≡◌, ◌⊎◌, ℕ, List, [], ◌∷◌, Bool, true, false, nat_eq, Option, ap, sym, refl, subst, ◌∙◌, inl, inr, arith}
use Rattle.std.specs.Cmp.Lexicographic.{pointwise}
use Rattle.std.proofs.lemmas.Bool.Decides.{nat_tests}
use Rattle.exif_files.specs.States.{Entry, State, Holds, Now, Run}
use Rattle.exif_files.specs.Written.{IsLike, IsNew, IsWhole, IsReplaced, IsReplacedForGood, IsGivenUp, none_failed}
use Rattle.exif_files.specs.Changed.{AnyState, HasAnswer, HasOtherBytes, IsWholeChange, IsChanged, IsNotChanged}
use Rattle.exif_files.proofs.Runs.{run_begin, run_then, run_stay, run_weaker}

module _ (answer : List ℕ → List ℕ → Type 0) (name : List ℕ) (backup : Option (List ℕ)) (times : Bool) (old new : List ℕ) (answered : answer old new) where
  -- the old bytes were read
  abbrev WasRead : State → Type 0
  WasRead s = Holds s name (λ f. f.bytes ≡ old)

  has_answer : (calm : Bool) (s u : State) → WasRead s → IsNew name new times calm s u → HasAnswer answer name times calm s u
  has_answer calm s u (f, is, e) (o, was, (g, now, (bytes, like, kept))) =
      let one : o ≡ f = cc in
      let P : Entry → Type 0 = λ x. IsLike times calm x g in
      let right : answer old g.bytes = subst (answer old) (sym bytes) answered in
      let Q : List ℕ → Type 0 = λ x. answer x g.bytes in
      (f, is, (g, now, (subst Q (sym e) right, subst P one like)))

  file_changed : (calm : Bool) (s u : State) → WasRead s → (u.at name ≡ s.at name) ⊎ IsNew name new times calm s u → (u.at name ≡ s.at name) ⊎ HasAnswer answer name times calm s u
  file_changed calm s u read (inl same) = inl same
  file_changed calm s u read (inr made) = inr (has_answer calm s u read made)

  changed : (calm : Bool) (s u : State) → WasRead s → IsReplaced name backup new times calm s u → IsChanged answer name backup times calm s u
  changed calm s u read r = record { file = has_answer calm s u read r.file; kept_as = inl (λ b e. (r.kept_as b e, r.was_free b e)); others = r.others }

  not_changed : (calm : Bool) (twice : Type 0) (s u : State) → WasRead s → IsGivenUp name backup new times calm twice s u → IsNotChanged answer name backup times calm twice s u
  not_changed calm twice s u read (inl same) = inl same
  not_changed calm twice s u read (inr (inl r)) = inr (inl (changed calm s u read r))
  not_changed calm twice s u read (inr (inr left)) = inr (inr left)

  begun_run : (calm : Bool) (a b : List State) → Now a WasRead → b ≡ a → Run (IsWholeChange answer name backup times calm) (λ s t. (t ≡ s) × WasRead s) a b
  begun_run calm a b now same = run_stay (run_begin (IsWholeChange answer name backup times calm) WasRead a now) same

  whole : (calm : Bool) (s t u : State) → (t ≡ s) × WasRead s → IsWhole name backup new times calm t u → IsWholeChange answer name backup times calm s u
  whole calm s t u (same, read) w =
      let P : State → Type 0 = λ x. IsWhole name backup new times calm x u in
      let w' = subst P same w in
      record { file = file_changed calm s u read w'.file; others = w'.others }

  pub run_changed : (written : List ℕ) (f f' k : ℕ) (a b c : List State) → Now a (λ s. Holds s name (λ e. e.bytes ≡ old)) → b ≡ a → written ≡ new → f' ≡ f
      → Run (IsWhole name backup written times (none_failed f' k)) (IsReplacedForGood name backup written times (none_failed f' k)) b c
      → Run (IsWholeChange answer name backup times (none_failed f k)) (IsChanged answer name backup times (none_failed f k)) a c
  run_changed written f f' k a b c now same e count run =
      let P : List ℕ → ℕ → Type 0 = λ xs n. Run (IsWhole name backup xs times (none_failed n k)) (IsReplacedForGood name backup xs times (none_failed n k)) b c in
      run_then (begun_run (none_failed f k) a b now same) (subst (P new) count (subst (λ (xs : List ℕ). P xs f') e run)) (λ s t h. h) (whole (none_failed f k))
      (λ s t u begun r.
      let Q : State → Type 0 = λ x. IsReplaced name backup new times (none_failed f k) x u in
      changed (none_failed f k) s u begun.1 (subst Q begun.0 r.replaced))

  pub run_not_changed : (twice : ℕ → Type 0) (written : List ℕ) (f f' k : ℕ) (a b c : List State) → Now a (λ s. Holds s name (λ e. e.bytes ≡ old)) → b ≡ a → written ≡ new → f' ≡ f
      → Run (IsWhole name backup written times (none_failed f' k)) (IsGivenUp name backup written times (none_failed f' k) (twice f')) b c
      → Run (IsWholeChange answer name backup times (none_failed f k)) (IsNotChanged answer name backup times (none_failed f k) (twice f)) a c
  run_not_changed twice written f f' k a b c now same e count run =
      let P : List ℕ → ℕ → Type 0 = λ xs n. Run (IsWhole name backup xs times (none_failed n k)) (IsGivenUp name backup xs times (none_failed n k) (twice n)) b c in
      run_then (begun_run (none_failed f k) a b now same) (subst (P new) count (subst (λ (xs : List ℕ). P xs f') e run)) (λ s t h. h) (whole (none_failed f k))
      (λ s t u begun r.
      let Q : State → Type 0 = λ x. IsGivenUp name backup new times (none_failed f k) (twice f) x u in
      not_changed (none_failed f k) (twice f) s u begun.1 (subst Q begun.0 r))

  -- the answer is the old bytes, and nothing was done
  pub run_same : (calm : Bool) (a b : List State) → Now a (λ s. Holds s name (λ e. e.bytes ≡ old)) → b ≡ a → new ≡ old
      → Run (IsWholeChange answer name backup times calm) (IsChanged answer name backup times calm) a b
  run_same calm a b now same e =
      run_weaker (begun_run calm a b now same) (λ s t h. h) (λ s t begun.
      let f = begun.1 in
      let P : List ℕ → List ℕ → Type 0 = answer in
      let own : answer f.0.bytes f.0.bytes = subst (λ (x : List ℕ). P x f.0.bytes) (sym f.2) (subst (P old) (e ∙ sym f.2) answered) in
      record {
        file = (f.0, f.1, (f.0, ap (λ (x : State). x.at name) begun.0 ∙ f.1, (own, record { same_mode = refl; same_times = λ h. refl; same_owner = λ h. refl })));
        kept_as = inr (λ n. ap (λ (x : State). x.at n) begun.0);
        others = λ n ne no. ap (λ (x : State). x.at n) begun.0;
      })

-- a file that is replaced by other bytes than those that were read
module _ (name : List ℕ) (backup : Option (List ℕ)) (times calm : Bool) (old written : List ℕ) (differ : written ≡ old → ⊥) where
  other_bytes : (s u : State) → Holds s name (λ e. e.bytes ≡ old) → IsNew name written times calm s u → HasOtherBytes name s u
  other_bytes s u (f, is, e) (o, was, (g, now, (bytes, like, kept))) = (f, is, (g, now, λ same. differ (sym bytes ∙ (same ∙ e))))

  pub run_rewritten : (a b c : List State) → Now a (λ s. Holds s name (λ e. e.bytes ≡ old)) → b ≡ a
      → Run (IsWhole name backup written times calm) (IsReplacedForGood name backup written times calm) b c
      → Run AnyState (HasOtherBytes name) a c
  run_rewritten a b c now same run =
      run_then (run_stay (run_begin AnyState (λ s. Holds s name (λ e. e.bytes ≡ old)) a now) same) run (λ s t h. tt) (λ s t u begun whole. tt)
      (λ s t u begun r.
      let Q : State → Type 0 = λ x. IsReplaced name backup written times calm x u in
      let replaced = subst Q begun.0 r.replaced in
      other_bytes s u begun.1 replaced.file)

same_bytes : (xs : List ℕ) → pointwise nat_eq xs xs ≡ true
same_bytes [] = refl
same_bytes (x ∷ xs) = let here : nat_eq x x ≡ true = grind (arith, nat_tests) in rw here (same_bytes xs)

-- lists that a test told apart
pub not_same : (xs ys : List ℕ) → false ≡ pointwise nat_eq xs ys → xs ≡ ys → ⊥
not_same xs ys told same =
    let equal = same_bytes ys in
    let other : false ≡ pointwise nat_eq ys ys = subst (λ (zs : List ℕ). false ≡ pointwise nat_eq zs ys) same told in
    cc
