-- What the calls of the library for C do.
use Rattle.std.specs.Prelude.{◌≡◌, ◌⊎◌, ◌==◌, ℕ, Bool, List, [], take, Option, Some, None, Result, Ok, Err, if◌then◌else◌}
use Rattle.exif_types.specs.Contents.{ExifContents}
use Rattle.exif_types.specs.Failures.{Failure}
use Rattle.exif_types.specs.declared.tag.Tag.{Tag}
use Rattle.exif_formats.specs.Formats.{format_in}
use Rattle.exif_formats.specs.Pictures.{ReadsPicture}
use Rattle.exif_json.specs.Answers.{IsJsonOf}
use Rattle.exif_edit_base.specs.Causes.{Cause}
use Rattle.exif_change.specs.Changed.{Change}
use Rattle.exif_change.specs.Refusals.{Reason}
use Rattle.exif_setting.specs.Setting.{set_here}
use Rattle.exif_c.specs.Buffers.{Gives, GivesNothing}
use Rattle.exif_c.specs.Statuses.{cause_status, error_status, number_of, undone_status, why_status}
use Rattle.exif_c.specs.declared.status.Status.{Status}
use Rattle.exif_c.specs.declared.status.Status.TheVariants as status
use Rattle.exif_c.specs.declared.buffer.Answer.{Answer}

-- the status of what a reader answered
abbrev pub answer_status : Result ExifContents Failure → Status
answer_status (Ok exif) = status.Well
answer_status (Err e) = error_status e

-- how many entries are read of a file at most, where the caller gives no limit
abbrev pub entry_limit : ℕ
entry_limit = 1000000

-- the limit that is meant
abbrev pub meant : ℕ → ℕ
meant limit = if limit == 0 then entry_limit else limit

-- what a reader answers of a file is in the buffer as JSON
pub record IsReadInto (lenient : Bool) (limit : ℕ) (file old new : List ℕ) (answer : Answer)
    : Type 0 where
  pub read : Result ExifContents Failure
  pub reads : ReadsPicture lenient (Some (meant limit)) file read
  pub text : List ℕ
  pub json : IsJsonOf [] (format_in (take 4096 file)) read text
  pub gives : Gives (number_of (answer_status read)) text old new answer

-- so, or memory ran out, and the buffer is as it was
abbrev pub IsRead : Bool → ℕ → List ℕ → List ℕ → List ℕ → Answer → Type 0
IsRead lenient limit file old new answer =
    IsReadInto lenient limit file old new answer
    ⊎ (GivesNothing (number_of status.OutOfMemory) answer × (new ≡ old))

-- a changed file is in the buffer, which its status says, or memory ran out and the buffer is as it
-- was; a refusal tells its number
abbrev pub Puts : Answer → List ℕ → List ℕ → Result Change Reason → Type 0
Puts answer old new (Ok change) =
    Gives (number_of (undone_status change.undone)) change.file old new answer
    ⊎ (GivesNothing (number_of status.OutOfMemory) answer × (new ≡ old))
Puts answer old new (Err why) =
    (new ≡ old)
    × (GivesNothing (number_of (why_status why)) answer
    ⊎ GivesNothing (number_of status.OutOfMemory) answer)

-- bytes are edited as the answer says, which the status tells, or memory ran out and they are as
-- they were
abbrev pub Ends : ℕ → List ℕ → List ℕ → Result (List ℕ) Cause → Type 0
Ends number old new (Ok edited) =
    ((number ≡ 0) × (new ≡ edited)) ⊎ ((number ≡ number_of status.OutOfMemory) × (new ≡ old))
Ends number old new (Err cause) =
    (new ≡ old)
    × ((number ≡ number_of (cause_status cause)) ⊎ (number ≡ number_of status.OutOfMemory))

-- bytes are changed as the answer says, which the status tells, or memory ran out and they are as
-- they were
abbrev pub EndsBy : ℕ → List ℕ → List ℕ → Result (List ℕ) Reason → Type 0
EndsBy number old new (Ok changed) =
    ((number ≡ 0) × (new ≡ changed)) ⊎ ((number ≡ number_of status.OutOfMemory) × (new ≡ old))
EndsBy number old new (Err why) =
    (new ≡ old)
    × ((number ≡ number_of (why_status why)) ⊎ (number ≡ number_of status.OutOfMemory))

-- a field is set by the tag and the text that are assigned, or there are none
abbrev pub SetsBy : ℕ → List ℕ → List ℕ → Option (Tag × List ℕ) → Type 0
SetsBy number old new (Some parts) = EndsBy number old new (set_here parts old)
SetsBy number old new None = (number ≡ number_of status.NoAssignment) × (new ≡ old)
