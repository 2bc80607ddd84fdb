-- What a report says of an answer.
use Rattle.std.specs.Prelude.{◌≡◌, ℕ, List, [], ◌++◌, length, map, ◌⊎◌, Option, Some, Result, Ok, Err, Vec}
use Rattle.std.specs.Global.{Global}
use Rattle.std.specs.List.{flat_map, Contains}
use Rattle.std.specs.Io.KnownBytes.{Appends, Keeps}
use Rattle.exif_base.specs.Sent.{SendsFront}
use Rattle.exif_types.specs.Contents.{ExifContents}
use Rattle.exif_types.specs.Failures.{Failure, told_text, bytes_of}
use Rattle.exif_types.specs.Refusals.{Refusal, refusal_of, IsInterrupted, ◌>>=◌}
use Rattle.exif_tiff.specs.Answers.{Answer, Refused, Whole, Partial}
use Rattle.exif_tiff.specs.Faults.{text_of}
use Rattle.exif_tiff.specs.declared.fault.Fault.{Fault}
use Rattle.exif_containers.specs.Container.{container_refusals}
use Rattle.exif_reader.specs.Files.{IsDataRefusal}
use Rattle.exif_tiff.specs.Readings.{IsRefusal}
use Rattle.exif_reader.specs.Lines.{field_line, fault_line}

-- a line for each field, and then one for each fault
abbrev pub answer_text : Answer → List ℕ
answer_text (Refused fault) = []
answer_text (Whole fields) = flat_map (field_line fields) fields
answer_text (Partial fields faults) =
    flat_map (field_line fields) fields ++ flat_map (λ fault. fault_line (text_of fault)) faults

-- how many faults were skipped
abbrev pub fault_count : Answer → ℕ
fault_count (Partial fields faults) = length faults
fault_count _ = 0

-- nothing of a file that is refused
abbrev pub report_text : Result Answer Refusal → List ℕ
report_text (Ok answer) = answer_text answer
report_text (Err r) = []

-- what the data of a container answer
abbrev pub given_by : (List ℕ → Answer) → Result (List ℕ) Refusal → Result Answer Refusal
given_by answer container = container >>= λ bytes. Ok (answer bytes)

-- the container or its data are refused with this error
abbrev pub IsRefusedAs : Result Answer Refusal → Failure → Type 0
IsRefusedAs (Ok answer) e = (r : Refusal) × (refusal_of e ≡ Some r) × IsRefusal answer r
IsRefusedAs (Err r) e = refusal_of e ≡ Some r

-- the fields and the faults are the answer's
abbrev pub Holds : Answer → ExifContents → List Failure → Type 0
Holds (Refused fault) exif errors = ⊥
Holds (Whole fields) exif errors = (exif.fields ≡ fields) × (errors ≡ [])
Holds (Partial fields faults) exif errors =
    (exif.fields ≡ fields) × (map bytes_of (map told_text errors) ≡ map text_of faults)

-- the same of a file
abbrev pub HoldsAnswer : Result Answer Refusal → ExifContents → List Failure → Type 0
HoldsAnswer (Ok answer) exif errors = Holds answer exif errors
HoldsAnswer (Err r) exif errors = ⊥

-- what was read is the file's; an error is its refusal, or none of the bytes'
abbrev pub Finds : Result Answer Refusal → Result (ExifContents × Vec Failure Global) Failure
    → Type 0
Finds answer (Ok found) = HoldsAnswer answer found.0 found.1.items
Finds answer (Err e) = IsRefusedAs answer e ⊎ IsInterrupted e

-- all of the answer's text was written, and its faults were counted
abbrev pub WritesWhole : Result Answer Refusal → ℕ → Option (List ℕ) → Option (List ℕ) → Type 0
WritesWhole (Ok answer) count old new =
    ((fault : Fault) → answer ≡ Refused fault → ⊥) × (count ≡ fault_count answer)
    × Appends old new (answer_text answer)
WritesWhole (Err r) count old new = ⊥

-- the text of the file's answer was written; a refusal writes nothing, and an interruption leaves a
-- front of the text
abbrev pub Reports : Result Answer Refusal → Result ℕ Failure → Option (List ℕ) → Option (List ℕ)
    → Type 0
Reports answer (Ok count) old new = WritesWhole answer count old new
Reports answer (Err e) old new =
    (IsRefusedAs answer e × Keeps old new)
    ⊎ (IsInterrupted e × SendsFront old new (report_text answer))

-- ---- what is said where the source's bytes are not known, as those of a file

-- a container or some data are refused with this error
abbrev pub IsNamedRefusal : (List ℕ → Answer) → Failure → Type 0
IsNamedRefusal answer e =
    (r : Refusal) × (refusal_of e ≡ Some r)
    × (Contains container_refusals r ⊎ IsDataRefusal answer r)

-- the fields and the faults are those of the data that came with them; an error is a named refusal,
-- or none of the bytes'
abbrev pub FindsOwn : (List ℕ → Answer) → Result (ExifContents × Vec Failure Global) Failure
    → Type 0
FindsOwn answer (Ok found) = Holds (answer found.0.buf) found.0 found.1.items
FindsOwn answer (Err e) = IsNamedRefusal answer e ⊎ IsInterrupted e

-- the text of some data's answer was written; a refusal writes nothing, and an interruption leaves
-- a front of such a text
abbrev pub ReportsSome : (List ℕ → Answer) → Result ℕ Failure → Option (List ℕ) → Option (List ℕ)
    → Type 0
ReportsSome answer (Ok count) old new =
    (bytes : List ℕ) × WritesWhole (Ok (answer bytes)) count old new
ReportsSome answer (Err e) old new =
    (IsNamedRefusal answer e × Keeps old new)
    ⊎ (IsInterrupted e × ((bytes : List ℕ) × SendsFront old new (answer_text (answer bytes))))
