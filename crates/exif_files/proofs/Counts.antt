-- Counts of failures, and names that are equal or not.
use Rattle.std.proofs.Common.{ap, ◌∙◌, Result, Ok, Err, OnErr, is_err, ◌≡◌, ◌≢◌, ◌⊎◌, ℕ, ◌≤◌, ◌<◌, ◌-◌, ◌^◌, List, Bool, true, false, sym, refl, inl, inr, arith}
use Rattle.std.specs.Prelude.{◌&&◌, ◌==◌, ltb}
use Rattle.std.specs.Str.{bytes_eq}
use Rattle.std.proofs.lemmas.Bool.{eqb-true, ltb-true, eq-eqb, lt-ltb}
use Rattle.std.proofs.lemmas.Slice.Eq.{bytes_eq-Decides}
use Rattle.exif_files.specs.Steps.{count_after}
use Rattle.exif_files.specs.Written.{none_failed, FailedTwice, FailedToRemove}
use Rattle.exif_files.specs.declared.failure.WriteError.{WriteError}
use Rattle.exif_files.specs.declared.failure.WriteError.TheVariants.{Taken}
use Rattle.exif_files.specs.Parts.{FailsOrNot, FailsOnceOrNot}

and_both : (a b : Bool) → (a && b) ≡ true → (a ≡ true) × (b ≡ true)
and_both true b h = (refl, h)
and_both false b h = cc

-- no failure is one that was counted
calm_facts : (f f' : ℕ) → none_failed f f' ≡ true → (f' ≡ f) × (f < 2 ^ 64 - 1)
calm_facts f f' h = let p = and_both (f' == f) (ltb f (2 ^ 64 - 1)) h in (eqb-true f' f p.0, ltb-true f (2 ^ 64 - 1) p.1)

pub not_calm : (f f' : ℕ) → f' ≡ count_after true f → none_failed f f' ≡ true → ⊥
not_calm f f' e h = let p = calm_facts f f' h in omega (arith, e, p.0, p.1)

-- a call that failed after others
pub not_calm_after : (f f' f'' : ℕ) → FailsOnceOrNot f f' → f'' ≡ count_after true f' → none_failed f f'' ≡ true → ⊥
not_calm_after f f' f'' (inl e) e' h = let p = calm_facts f f'' h in omega (arith, e, e', p.0, p.1)
not_calm_after f f' f'' (inr e) e' h = let p = calm_facts f f'' h in omega (arith, e, e', p.0, p.1)

-- a name is another or not
pub same_or_other : (a b : List ℕ) → (a ≡ b) ⊎ (a ≢ b)
same_or_other a b = decide (bytes_eq a b) refl
  where
    decide : (test : Bool) → bytes_eq a b ≡ test → (a ≡ b) ⊎ (a ≢ b)
    decide true e = inl ((bytes_eq-Decides a b).0 e)
    decide false e = inr (λ same. let holds : bytes_eq a b ≡ true = (bytes_eq-Decides a b).1 same in cc)

calm_from : (f f' : ℕ) → f' ≡ f → f < 2 ^ 64 - 1 → none_failed f f' ≡ true
calm_from f f' e l = rw (eq-eqb f' f e, lt-ltb f (2 ^ 64 - 1) l) refl

-- counts that are equal
pub calm_same : (f g h k : ℕ) → g ≡ f → k ≡ h → none_failed g h ≡ none_failed f k
calm_same f g h k e e' = ap (λ (n : ℕ). none_failed n h) e ∙ ap (none_failed f) (sym e')

-- where no call failed up to the end, none failed before
pub calmer_before : (f g h k : ℕ) → g ≡ f → FailsOnceOrNot g h → FailsOrNot h k → none_failed f k ≡ true → none_failed g h ≡ true
calmer_before f g h k e (inl same) rises holds = let p = calm_facts f k holds in calm_from g h same (omega (arith, e, p.1))
calmer_before f g h k e (inr once) (inl same) holds = let p = calm_facts f k holds in absurd (omega (arith, e, once, same, p.0, p.1))
calmer_before f g h k e (inr once) (inr more) holds = let p = calm_facts f k holds in absurd (omega (arith, e, once, more, p.0, p.1))

pub twice_since : (f g h k : ℕ) → g ≡ f → FailsOnceOrNot g h → FailedTwice h k → FailedTwice f k
twice_since f g h k e (inl same) both = omega (arith, e, same, both)
twice_since f g h k e (inr once) both = omega (arith, e, once, both)

pub fails_since : (f g h k : ℕ) → g ≡ f → FailsOnceOrNot g h → FailsOrNot h k → FailsOrNot f k
fails_since f g h k e (inl same) (inl same') = inl (same' ∙ same ∙ e)
fails_since f g h k e (inl same) (inr more) = inr (omega (arith, e, same, more))
fails_since f g h k e (inr once) (inl same) = inr (omega (arith, e, once, same))
fails_since f g h k e (inr once) (inr more) = inr (omega (arith, e, once, more))

-- of a replacement that failed, and of a removal after it
calmer_given_up : (removed : Bool) (f g h k : ℕ) → g ≡ f → FailsOrNot g h → k ≡ count_after removed h → none_failed f k ≡ true → none_failed g h ≡ true
calmer_given_up removed f g h k e (inl same) count holds = let p = calm_facts f k holds in calm_from g h same (omega (arith, e, p.1))
calmer_given_up true f g h k e (inr more) count holds = let p = calm_facts f k holds in absurd (omega (arith, e, more, count, p.0, p.1))
calmer_given_up false f g h k e (inr more) count holds = let p = calm_facts f k holds in absurd (omega (arith, e, more, count, p.0, p.1))

pub calmer_after : {T E : Type 0} (r : Result T E) (f g h k : ℕ) → g ≡ f → FailsOrNot g h → k ≡ count_after (is_err r) h → none_failed f k ≡ true → none_failed g h ≡ true
calmer_after r f g h k e rises count holds = calmer_given_up (is_err r) f g h k e rises count holds

pub twice_then : {T E : Type 0} (r : Result T E) (error : WriteError) (f g h k : ℕ) → g ≡ f → k ≡ count_after (is_err r) h → FailedTwice g h → FailedToRemove error f k
twice_then (Ok x) error f g h k e count both = record { once = omega (arith, e, count, both); twice = λ ne. omega (arith, e, count, both) }
twice_then (Err x) error f g h k e count both = record { once = omega (arith, e, count, both); twice = λ ne. omega (arith, e, count, both) }

not_removed : (error : WriteError) (f g h k : ℕ) → g ≡ f → FailsOrNot g h → (error ≢ Taken → count_after true g ≤ h) → k ≡ count_after true h → FailedToRemove error f k
not_removed error f g h k e (inl same) cause count = record { once = omega (arith, e, same, count); twice = λ ne. let more = cause ne in omega (arith, e, more, count) }
not_removed error f g h k e (inr more) cause count = record { once = omega (arith, e, more, count); twice = λ ne. let more' = cause ne in omega (arith, e, more', count) }

pub removal_failed : {T E : Type 0} (r : Result T E) (error : WriteError) (f g h k : ℕ) → g ≡ f → FailsOrNot g h → (error ≢ Taken → count_after true g ≤ h) → k ≡ count_after (is_err r) h → OnErr r (FailedToRemove error f k)
removal_failed (Ok x) error f g h k e rises cause count = tt
removal_failed (Err x) error f g h k e rises cause count = not_removed error f g h k e rises cause count

-- a call that failed before others, and before a removal
pub more_after : {T E : Type 0} (r : Result T E) (f g h k : ℕ) → g ≡ f → k ≡ count_after (is_err r) h → count_after true g ≤ h → count_after true f ≤ k
more_after (Ok x) f g h k e count more = omega (arith, e, count, more)
more_after (Err x) f g h k e count more = omega (arith, e, count, more)
