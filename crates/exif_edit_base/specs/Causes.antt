-- Why an edit is refused.
use Rattle.std.specs.Prelude.{◌≡◌, ℕ, List, Option, Some, None, Result, Ok, Err, MatchOption, Bool, true, false, codes}
use Rattle.exif_types.specs.Failures as failures
use Rattle.exif_types.specs.Failures.{Failure}
use Rattle.exif_types.specs.declared.error.Error.TheVariants as failure
use Rattle.exif_types.specs.Refusals.{Refusal, refusal_of}
use Rattle.exif_tiff.specs.Faults.{text_of}
use Rattle.exif_tiff.specs.declared.fault.Fault.{Fault}
use Rattle.exif_tiff.specs.declared.stop.Stop.{Stop}
use Rattle.exif_tiff.specs.declared.stop.Stop.TheVariants as stop
use Rattle.exif_edit_base.specs.declared.error.Error.{Error}
use Rattle.exif_edit_base.specs.declared.error.Error.TheVariants as error

-- why an edit is refused, as plain data
pub data Cause : Type 0 where
  no_field : Cause
  no_directory : Cause
  full_directory : Cause
  unknown_type : Cause
  too_long : Cause
  offset_named : Cause
  shared : Cause
  picture : Cause
  wrong_header : Fault → Cause
  no_data : Refusal → Cause

abbrev no_data_by : Option Refusal → Option Cause
no_data_by (Some r) = Some (no_data r)
no_data_by None = None

-- the cause that an error names; out of memory is none
abbrev pub cause_of : Error → Option Cause
cause_of error.FieldNotFound = Some no_field
cause_of error.NoDirectory = Some no_directory
cause_of error.FullDirectory = Some full_directory
cause_of error.UnknownType = Some unknown_type
cause_of error.ValueTooLong = Some too_long
cause_of error.NamesOffsets = Some offset_named
cause_of error.SharedBytes = Some shared
cause_of error.PictureData = Some picture
cause_of (error.Header fault) = Some (wrong_header fault)
cause_of (error.Container e) = no_data_by (refusal_of e)
cause_of error.OutOfMemory = None

-- how an error is shown
abbrev pub error_text : Error → Option (List ℕ)
error_text error.FieldNotFound = Some (codes "No such field")
error_text error.NoDirectory = Some (codes "No directory to put the field into")
error_text error.FullDirectory = Some (codes "The directory has no space for an entry")
error_text error.UnknownType = Some (codes "Cannot write unknown field types")
error_text error.ValueTooLong = Some (codes "The value is too long for its space")
error_text error.NamesOffsets = Some (codes "The field holds offsets of other data")
error_text error.SharedBytes = Some (codes "The bytes are shared with other data")
error_text error.PictureData = Some (codes "The picture is in the same data")
error_text (error.Header fault) = Some (text_of fault)
error_text (error.Container e) = failures.error_text e
error_text error.OutOfMemory = Some (codes "Out of memory")

-- the error that a stop of the parser becomes
abbrev pub Becomes : Stop → Error → Type 0
Becomes stop.OutOfMemory e = e ≡ error.OutOfMemory
Becomes (stop.Fault fault) e = e ≡ error.Header fault

-- the error that a container's becomes
abbrev pub Stops : Failure → Error → Type 0
Stops failure.OutOfMemory e = e ≡ error.OutOfMemory
Stops f e = e ≡ error.Container f

-- ---- steps that may be refused

-- one step after another: the first cause is the answer
infixl 10 ◌>>=◌
abbrev pub ◌>>=◌ : {A B : Type 0} → Result A Cause → (A → Result B Cause) → Result B Cause
(Ok x) >>= f = f x
(Err c) >>= f = Err c

-- nothing, unless a test refuses
abbrev pub unless : Bool → Cause → Result (Unit {0}) Cause
unless false c = Ok tt
unless true c = Err c

-- a value, or this cause where there is none
abbrev pub or_cause : {A : Type 0} → Option A → Cause → Result A Cause
or_cause (Some x) c = Ok x
or_cause None c = Err c

-- what was read, or the fault of the header
abbrev pub of_data : {A : Type 0} → Result A Fault → Result A Cause
of_data (Ok x) = Ok x
of_data (Err fault) = Err (wrong_header fault)

-- what a file holds, or the refusal of its container
abbrev pub of_container : {A : Type 0} → Result A Refusal → Result A Cause
of_container (Ok x) = Ok x
of_container (Err r) = Err (no_data r)

-- ---- what calls say

-- an error names the answer's cause, or memory ran out
abbrev pub Fails : {Y : Type 0} → Error → Result Y Cause → Type 0
Fails e answer = MatchOption (cause_of e) (e ≡ error.OutOfMemory) (λ c. answer ≡ Err c)

-- a result, seen by view, is the answer
abbrev pub Makes : {X Y : Type 0} → (X → Y) → Result X Error → Result Y Cause → Type 0
Makes view (Ok x) answer = answer ≡ Ok (view x)
Makes view (Err e) answer = Fails e answer

-- bytes were edited as the answer says, or nothing has changed
abbrev pub Edits : Result (Unit {0}) Error → List ℕ → List ℕ → Result (List ℕ) Cause → Type 0
Edits (Ok _) old new answer = answer ≡ Ok new
Edits (Err e) old new answer = (new ≡ old) × Fails e answer
