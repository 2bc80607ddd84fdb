-- What a file answers: its container gives TIFF data, and these give fields and faults.
use Rattle.std.specs.Prelude.{◌≡◌, ◌⊎◌, ℕ, Bool, true, false, List, Option, Result, Ok, Err, MatchOption}
use Rattle.std.specs.List.{Contains}
use Rattle.exif_types.specs.Contents.{ExifContents}
use Rattle.exif_types.specs.Failures.{Failure}
use Rattle.exif_types.specs.Refusals.{Refusal, refusal_of, IsInterrupted, ◌>>=◌}
use Rattle.exif_types.specs.declared.error.Error.TheVariants as error
use Rattle.exif_tiff.specs.Answers.{Answer, raw_answer, first_fault}
use Rattle.exif_containers.specs.Container.{container_answer, container_refusals}
use Rattle.exif_tiff.specs.Readings.{HoldsData, HoldsFront, IsRefusal, ReadsAs, ReadsHeld}

-- the answer of a file, or the refusal of its container
abbrev pub file_answer : Bool → Option ℕ → List ℕ → Result Answer Refusal
file_answer lenient limit bytes =
    container_answer bytes >>= λ data'. Ok (raw_answer lenient limit data')

-- strict reading of a file gives the first fault of lenient reading, and the same refusal of its
-- container
abbrev pub StrictIsFirstFaultOfFile : Option ℕ → List ℕ → Type 0
StrictIsFirstFaultOfFile limit bytes =
    file_answer false limit bytes
    ≡ (file_answer true limit bytes >>= λ answer. Ok (first_fault answer))

-- what is read of a container: the answer of its data, to which H ties the contents, or its refusal
abbrev pub ReadsContainerHeld : (ExifContents → List ℕ → Type 0) → (List ℕ → Answer)
    → Result (List ℕ) Refusal → Result ExifContents Failure → Type 0
ReadsContainerHeld H answer (Ok bytes) result =
    ReadsHeld H IsInterrupted (answer bytes) bytes result
ReadsContainerHeld H answer (Err r) (Ok exif) = ⊥
ReadsContainerHeld H answer (Err r) (Err e) =
    MatchOption (refusal_of e) (IsInterrupted e) (λ refused. refused ≡ r)

-- the same with all the data
abbrev pub ReadsContainer : (List ℕ → Answer) → Result (List ℕ) Refusal
    → Result ExifContents Failure → Type 0
ReadsContainer = ReadsContainerHeld HoldsData

-- or with a front of them
abbrev pub ReadsByNeed : (List ℕ → Answer) → Result (List ℕ) Refusal
    → Result ExifContents Failure → Type 0
ReadsByNeed = ReadsContainerHeld HoldsFront

-- ---- what is said where a source's bytes are not known, as those of a file

-- some data are refused so
abbrev pub IsDataRefusal : (List ℕ → Answer) → Refusal → Type 0
IsDataRefusal answer r = (bytes : List ℕ) × IsRefusal (answer bytes) r

-- what came back, whole or partial, is what its own data answer; an error is a refusal of a
-- container or of some data, or an interruption
abbrev pub AnswersOwnData : (List ℕ → Answer) → Result ExifContents Failure → Type 0
AnswersOwnData answer (Ok exif) = ReadsAs (answer exif.buf) exif.buf (Ok exif)
AnswersOwnData answer (Err (error.PartialResult partial)) =
    ReadsAs (answer partial.exif.buf) partial.exif.buf (Err (error.PartialResult partial))
AnswersOwnData answer (Err e) =
    MatchOption (refusal_of e) (IsInterrupted e)
    (λ r. Contains container_refusals r ⊎ IsDataRefusal answer r)
