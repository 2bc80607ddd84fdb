-- A refusal of a HEIF file is a named one.
use Rattle.std.proofs.Common.{◌≡◌, sym, IfSome, ℕ, List, length, eqb, ltb, refl, arith, Ok, Option, Some, None, Result, Err, IfErr, MatchOption, subst}
use Rattle.std.specs.List.{Contains}
use Rattle.exif_types.specs.Failures.{Failure}
use Rattle.exif_types.specs.Refusals.{Refusal, refusal_of, IsInterrupted, Fails, Gives}
use Rattle.exif_isobmff.specs.HeifRefusals.{heif_refusals, broken_file}
use Rattle.exif_isobmff.proofs.ExifNames.{Only, only_then, only_if}
use Rattle.exif_isobmff.specs.ItemLocations.{extent_front}
use Rattle.exif_containers.specs.HeifSteps.{one_part}
use Rattle.exif_segments.specs.Answer.{IsNamed, IsShort}

-- an error that is the refusal of such an answer has a name
pub fails_named : {A : Type 0} (e : Failure) (answer : Result A Refusal) → Only answer → Fails e answer → IsNamed heif_refusals e
fails_named {A = A} e answer h k = by (refusal_of e) k
  where
    same : (r : Refusal) (x : Result A Refusal) → IfErr x (Contains heif_refusals) → x ≡ Err r → Contains heif_refusals r
    same r x h e = let P : Result A Refusal → Type 0 = λ y. IfErr y (Contains heif_refusals) in subst P e h

    by : (o : Option Refusal) → MatchOption o (IsInterrupted e) (λ r. answer ≡ Err r) → MatchOption o (IsInterrupted e) (Contains heif_refusals)
    by (Some r) k = same r answer h k
    by None k = k

front_only : (len : ℕ) (bytes : List ℕ) → Only (extent_front len bytes)
front_only len bytes = only_if (eqb len 0) _ _ tt (only_if (ltb (length bytes) len) _ _ (0, omega arith, refl) tt)

-- an item of one extent is refused by a refusal of the list
pub one_part_only : (len : ℕ) (bytes : List ℕ) → Only (one_part len bytes)
one_part_only len bytes = only_then (extent_front len bytes) _ (front_only len bytes) (λ part. only_if (ltb 65535 (length part)) _ _ (23, omega arith, refl) tt)

-- a failure of a call without `?`
pub result_named : {A X : Type 0} (items : X → A) (result : Result X Failure) (answer : Result A Refusal) → Only answer → Gives items result answer → IfErr result (IsNamed heif_refusals)
result_named items (Ok x) answer h k = tt
result_named items (Err e) answer h k = fails_named e answer h k

-- the end of the bytes is a named refusal
pub short_named : (e : Failure) (left : Option (List ℕ)) (P : List ℕ → Type 0) → IsShort broken_file e left P → IsNamed heif_refusals e
short_named e left P h = by (refusal_of e) h
  where
    by : (o : Option Refusal) → MatchOption o (IsInterrupted e) (λ r. (r ≡ broken_file) × IfSome left P) → MatchOption o (IsInterrupted e) (Contains heif_refusals)
    by None k = k
    by (Some r) k = (0, omega arith, sym k.0)
