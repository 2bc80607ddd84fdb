-- What the program does with its arguments and with its report.
use Rattle.std.specs.Prelude.{◌≡◌, ◌<◌, ℕ, Bool, true, false, ◌==◌, if◌then◌else◌, List, [], ◌∷◌, ◌++◌, codes, Option, Some, None, Result, Ok, Err, IfSome}
use Rattle.std.specs.Str.{bytes_eq}
use Rattle.std.specs.Io.KnownBytes.{Appends, Keeps}
use Rattle.exif_base.specs.Device.{CountsBoth}
use Rattle.exif_base.specs.Sent.{SendsFront}
use Rattle.exif_types.specs.Failures.{Failure, error_text}
use Rattle.exif_types.specs.Refusals.{is_io}
use Rattle.exif_tiff.specs.Answers.{raw_answer}
use Rattle.exif_reader.specs.Files.{file_answer}
use Rattle.exif_reader.specs.Reports.{Reports, ReportsSome}

-- whether to pass over faults, and which argument is the file's path
abbrev pub asked_by : List (List ℕ) → Option (Bool × ℕ)
asked_by [] = None
asked_by (file ∷ []) = if bytes_eq file (codes "-c") then None else Some (false, 0)
asked_by (flag ∷ (file ∷ [])) = if bytes_eq flag (codes "-c") then Some (true, 1) else None
asked_by (a ∷ (b ∷ (c ∷ more))) = None

-- the status of a report: 0 without faults, 3 with faults that were skipped, 1 with an error
abbrev pub status_of : Result ℕ Failure → ℕ
status_of (Ok count) = if count == 0 then 0 else 3
status_of (Err e) = 1

-- the line of an error
unfoldable pub said_line : List ℕ → List ℕ
said_line text = codes "exif_show: " ++ (text ++ codes "\n")

-- an error's line was sent, where its text is known
abbrev pub SaysWhole : Failure → Option (List ℕ) → Option (List ℕ) → Type 0
SaysWhole e old new = IfSome (error_text e) (λ text. Appends old new (said_line text))

-- a front of it stands out
abbrev pub Says : Failure → Option (List ℕ) → Option (List ℕ) → Type 0
Says e old new = IfSome (error_text e) (λ text. SendsFront old new (said_line text))

-- an error alone is reported, as far as memory and the device allow
abbrev pub SaysError : Result ℕ Failure → Option (List ℕ) → Option (List ℕ) → Type 0
SaysError (Ok count) old new = Keeps old new
SaysError (Err e) old new = Says e old new

-- a file's report, the status that goes with it, its error's line, and the counts of both devices
pub record Shows (left : Option (List ℕ)) (lenient : Bool) (status : ℕ)
    (out out' err err' : Option (List ℕ)) (read read' written written' : ℕ) : Type 0 where
  pub found : Result ℕ Failure
  pub reports : IfSome left (λ bytes. Reports (file_answer lenient None bytes) found out out')
  pub some : ReportsSome (raw_answer lenient None) found out out'
  pub told : status ≡ status_of found
  pub said : SaysError found err err'
  pub counts : CountsBoth read read' written written' (is_io found)
  pub quiet : read < read' → Keeps out out'
