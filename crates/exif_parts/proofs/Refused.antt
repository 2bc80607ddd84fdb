-- A call whose refusal is that of the whole.
use Rattle.std.proofs.Common.{◌≡◌, None, Some, Result, Err, MatchOption, Option}
use Rattle.exif_types.specs.Failures.{Failure}
use Rattle.exif_types.specs.Refusals.{Fails, IsInterrupted, Refusal, Refuses, refusal_of}

-- a refusal of a part is one of the whole
pub refuses_fails : {X Y : Type 0} (e : Failure) (x : Result X Refusal) (y : Result Y Refusal) → ((r : Refusal) → x ≡ Err r → y ≡ Err r) → Refuses e x → Fails e y
refuses_fails e x y f = by (refusal_of e)
  where
    by : (o : Option Refusal) → MatchOption o ⊥ (λ r. x ≡ Err r) → MatchOption o (IsInterrupted e) (λ r. y ≡ Err r)
    by None h = absurd h
    by (Some r) h = f r h
