-- A refusal inside a definition is a refusal of the definition.
use Rattle.std.proofs.Common.{◌≡◌, Option, None, Some, Result, Err, MatchOption, ap, ◌∙◌}
use Rattle.exif_types.specs.Failures.{Failure}
use Rattle.exif_types.specs.Refusals.{Refusal, refusal_of, IsInterrupted, Refuses, Fails}

-- a definition passes a refusal of its part on
abbrev pub Keeps : {A B : Type 0} → (Result A Refusal → Result B Refusal) → Type 0
Keeps f = (r : Refusal) → f (Err r) ≡ Err r

refuses_with : {A B : Type 0} (o : Option Refusal) (f : Result A Refusal → Result B Refusal) (part : Result A Refusal) → Keeps f
    → MatchOption o ⊥ (λ r. part ≡ Err r) → MatchOption o ⊥ (λ r. f part ≡ Err r)
refuses_with (Some r) f part k h = ap f h ∙ k r
refuses_with None f part k h = h

-- a refusal of a part is one of the whole
pub refuses_along : {A B : Type 0} (e : Failure) (f : Result A Refusal → Result B Refusal) (part : Result A Refusal) → Keeps f
    → Refuses e part → Refuses e (f part)
refuses_along e f part k h = refuses_with (refusal_of e) f part k h

fails_with : {A B : Type 0} (o : Option Refusal) (I : Type 0) (f : Result A Refusal → Result B Refusal) (part : Result A Refusal) → Keeps f
    → MatchOption o I (λ r. part ≡ Err r) → MatchOption o I (λ r. f part ≡ Err r)
fails_with (Some r) I f part k h = ap f h ∙ k r
fails_with None I f part k h = h

-- a failure of a part is one of the whole
pub fails_along : {A B : Type 0} (e : Failure) (f : Result A Refusal → Result B Refusal) (part : Result A Refusal) → Keeps f
    → Fails e part → Fails e (f part)
fails_along e f part k h = fails_with (refusal_of e) (IsInterrupted e) f part k h

-- a refusal that owes no memory is one
refusal_with : {A : Type 0} (o : Option Refusal) (I : Type 0) (part : Result A Refusal)
    → MatchOption o ⊥ (λ r. part ≡ Err r) → MatchOption o I (λ r. part ≡ Err r)
refusal_with (Some r) I part h = h
refusal_with None I part h = absurd h

-- a refusal is a failure
pub refusal_fails : {A : Type 0} (e : Failure) (part : Result A Refusal) → Refuses e part → Fails e part
refusal_fails e part h = refusal_with (refusal_of e) (IsInterrupted e) part h
