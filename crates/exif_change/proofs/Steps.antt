-- Steps that may be refused, one after another.
use Rattle.std.proofs.Common.{◌≡◌, Option, Some, None, Result, Err, ap}
use Rattle.std.specs.Prelude.{MatchOption}
use Rattle.std.specs.Option.{option_map}
use Rattle.exif_types.specs.Failures.{Failure}
use Rattle.exif_types.specs.Refusals.{IsInterrupted, refusal_of}
use Rattle.exif_types.specs.Refusals as types
use Rattle.exif_edit_base.specs.Causes as causes
use Rattle.exif_edit_base.specs.Causes.{Cause, cause_of}
use Rattle.exif_edit_base.specs.declared.error.Error.{Error}
use Rattle.exif_edit_base.specs.declared.error.Error.TheVariants as edit
use Rattle.exif_change.specs.Refusals.{Fails, IsStopped, Reason, as_edited, as_read, editing, reading, why_of, ◌>>=◌}
use Rattle.exif_change.specs.declared.refusal.Refusal.{Refusal}
use Rattle.exif_change.specs.declared.refusal.Refusal.TheVariants as refusal

-- a step's refusal is that of the whole
pub refused_on : {X Y : Type 0} (e : Refusal) (x : Result X Reason) (y : Result Y Reason) → Fails e x
    → ((why : Reason) → x ≡ Err why → y ≡ Err why) → Fails e y
refused_on {X = X} {Y = Y} e x y h f = by_why (why_of e) h
  where
    by_why : (o : Option Reason) → MatchOption o (IsStopped e) (λ why. x ≡ Err why)
        → MatchOption o (IsStopped e) (λ why. y ≡ Err why)
    by_why None h = h
    by_why (Some why) h = f why h

-- the same where the whole goes on with what the step gives
pub refused_then : {X Y : Type 0} (e : Refusal) (x : Result X Reason) (f : X → Result Y Reason) → Fails e x → Fails e (x >>= f)
refused_then e x f h = refused_on e x (x >>= f) h (λ why is. ap (λ r. r >>= f) is)

-- a refusal of reading
pub reading_refused : {X : Type 0} (e : Failure) (x : Result X types.Refusal) → types.Fails e x → Fails (refusal.Reading e) (as_read x)
reading_refused {X = X} e x h = by_refusal (refusal_of e) h
  where
    by_refusal : (o : Option types.Refusal) → MatchOption o (IsInterrupted e) (λ r. x ≡ Err r)
        → MatchOption (option_map reading o) (IsInterrupted e) (λ why. as_read x ≡ Err why)
    by_refusal None h = h
    by_refusal (Some r) h = ap as_read h

-- a refusal of an edit
pub editing_refused : {X : Type 0} (e : Error) (x : Result X Cause) → causes.Fails e x → Fails (refusal.Editing e) (as_edited x)
editing_refused {X = X} e x h = by_cause (cause_of e) h
  where
    by_cause : (o : Option Cause) → MatchOption o (e ≡ edit.OutOfMemory) (λ c. x ≡ Err c)
        → MatchOption (option_map editing o) (e ≡ edit.OutOfMemory) (λ why. as_edited x ≡ Err why)
    by_cause None h = h
    by_cause (Some c) h = ap as_edited h
