-- Why a file is not changed.
use Rattle.std.specs.Prelude.{◌≡◌, ⊤, ℕ, List, Option, Some, None, Result, Ok, Err, MatchOption}
use Rattle.std.specs.Option.{option_map}
use Rattle.exif_types.specs.Refusals.{IsInterrupted, refusal_of}
use Rattle.exif_types.specs.Refusals as types
use Rattle.exif_types.specs.declared.tag.Tag.{Tag}
use Rattle.exif_edit_base.specs.Causes.{Cause, cause_of}
use Rattle.exif_edit_base.specs.declared.error.Error.TheVariants as edit
use Rattle.exif_scrub.specs.declared.heif.fault.Fault as heif
use Rattle.exif_scrub.specs.declared.tiff.fault.Fault.{Fault}
use Rattle.exif_change.specs.declared.refusal.Refusal.{Refusal}
use Rattle.exif_change.specs.declared.refusal.Refusal.TheVariants as refusal

-- why a file is not changed, as plain data
pub data Reason : Type 0 where
  reading : types.Refusal → Reason
  editing : Cause → Reason
  unknown_format : Reason
  tiff_fault : Fault → Reason
  heif_fault : heif.Fault → Reason
  second_exif : Reason
  too_long : Tag → Reason
  no_field : Reason
  not_of_its_type : Tag → Reason
  out_of_range : Tag → Reason
  no_date : Reason
  no_thumbnail : Reason

-- what a refusal says; out of memory is none
abbrev pub why_of : Refusal → Option Reason
why_of (refusal.Reading e) = option_map reading (refusal_of e)
why_of (refusal.Editing e) = option_map editing (cause_of e)
why_of refusal.UnknownFormat = Some unknown_format
why_of (refusal.Tiff fault) = Some (tiff_fault fault)
why_of (refusal.Heif fault) = Some (heif_fault fault)
why_of refusal.SecondExif = Some second_exif
why_of (refusal.TooLong tag) = Some (too_long tag)
why_of refusal.FieldNotFound = Some no_field
why_of (refusal.NotOfItsType tag) = Some (not_of_its_type tag)
why_of (refusal.OutOfRange tag) = Some (out_of_range tag)
why_of refusal.NoDate = Some no_date
why_of refusal.NoThumbnail = Some no_thumbnail
why_of refusal.OutOfMemory = None

-- memory ran out
abbrev pub IsStopped : Refusal → Type 0
IsStopped (refusal.Reading e) = IsInterrupted e
IsStopped (refusal.Editing e) = e ≡ edit.OutOfMemory
IsStopped refusal.OutOfMemory = ⊤
IsStopped _ = ⊥

-- ---- steps that may be refused

-- one step after another: the first refusal is the answer
infixl 10 ◌>>=◌
abbrev pub ◌>>=◌ : {A B : Type 0} → Result A Reason → (A → Result B Reason) → Result B Reason
(Ok x) >>= f = f x
(Err why) >>= f = Err why

-- what was read, or why it was not
abbrev pub as_read : {A : Type 0} → Result A types.Refusal → Result A Reason
as_read (Ok x) = Ok x
as_read (Err r) = Err (reading r)

-- what was edited, or why it was not
abbrev pub as_edited : {A : Type 0} → Result A Cause → Result A Reason
as_edited (Ok x) = Ok x
as_edited (Err cause) = Err (editing cause)

-- ---- what calls say

-- an error tells why the answer is a refusal, or memory ran out
abbrev pub Fails : {Y : Type 0} → Refusal → Result Y Reason → Type 0
Fails e answer = MatchOption (why_of e) (IsStopped e) (λ why. answer ≡ Err why)

-- a result, seen by view, is the answer
abbrev pub Answers : {X Y : Type 0} → (X → Y) → Result X Refusal → Result Y Reason → Type 0
Answers view (Ok x) answer = answer ≡ Ok (view x)
Answers view (Err e) answer = Fails e answer

-- bytes were changed as the answer says, or nothing has changed
abbrev pub Changes : Result (Unit {0}) Refusal → List ℕ → List ℕ → Result (List ℕ) Reason → Type 0
Changes (Ok _) old new answer = answer ≡ Ok new
Changes (Err e) old new answer = (new ≡ old) × Fails e answer
