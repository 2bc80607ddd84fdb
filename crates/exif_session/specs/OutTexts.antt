-- Why nothing was written to another file, in words.
use Rattle.std.specs.Prelude.{◌≡◌, ℕ, Bool, false, List, ◌++◌, Option, Some, None, Result, Ok, Err, option_map, codes, string_bytes}
use Rattle.std.specs.Str.{bytes_eq}
use Rattle.std.specs.Global.{Global}
use Rattle.std.specs.declared.string.String.{String}
use Rattle.exif_decisions.specs.Rules.{destination_for}
use Rattle.exif_decisions.specs.declared.rules.Destination.{Destination}
use Rattle.exif_decisions.specs.declared.rules.Existing.{Existing}
use Rattle.exif_decisions.specs.declared.rules.NoDestination.{NoDestination}
use Rattle.exif_decisions.specs.declared.rules.NoDestination.TheVariants as no
use Rattle.exif_files.specs.declared.failure.WriteError.{WriteError}
use Rattle.exif_files.specs.declared.failure.WriteError.TheVariants as writing
use Rattle.exif_decisions.specs.Escaping.{escaped_text}
use Rattle.exif_files.specs.Texts.{error_text}
use Rattle.exif_session.specs.declared.output.OutError.{OutError}
use Rattle.exif_session.specs.declared.output.OutError.TheVariants as error

-- why nothing was written; the text of the system's own error is not known
abbrev pub out_text : OutError → Option (List ℕ)
out_text error.Same = Some (codes "input and output are the same file")
out_text (error.Exists out) =
    Some (escaped_text (string_bytes out) ++ codes " exists; use --force to replace it")
out_text (error.Special out) =
    Some (escaped_text (string_bytes out) ++ codes " is not a regular file")
out_text (error.Writing out cause) =
    option_map (λ why. codes "cannot write " ++ (escaped_text (string_bytes out) ++ (codes ": " ++ why)))
    (error_text cause)

-- whether two paths lead to one file, by where their links end
abbrev pub is_same_path : Option (List ℕ) → Option (List ℕ) → Bool
is_same_path None to = false
is_same_path (Some path) None = false
is_same_path (Some path) (Some to) = bytes_eq path to

-- why OUT is not written, with its name; the system's own errors are not told apart
pub data OutRefusal : Type 0 where
  the_same : OutRefusal
  the_existing : List ℕ → OutRefusal
  the_special : List ℕ → OutRefusal
  not_written : List ℕ → OutRefusal

abbrev pub out_refusal : OutError → OutRefusal
out_refusal error.Same = the_same
out_refusal (error.Exists out) = the_existing (string_bytes out)
out_refusal (error.Special out) = the_special (string_bytes out)
out_refusal (error.Writing out cause) = not_written (string_bytes out)

abbrev pub no_destination : NoDestination → List ℕ → OutRefusal
no_destination no.Same to = the_same
no_destination no.Exists to = the_existing to
no_destination no.Special to = the_special to

abbrev pub out_answer : Result Destination OutError → Result Destination OutRefusal
out_answer (Ok destination) = Ok destination
out_answer (Err why) = Err (out_refusal why)

abbrev pub with_name : List ℕ → Result Destination NoDestination → Result Destination OutRefusal
with_name to (Ok destination) = Ok destination
with_name to (Err why) = Err (no_destination why to)

-- where a new file is written follows from whether OUT is the file itself, and what it is
abbrev pub IsOutOf : List ℕ → Bool → Result Destination OutRefusal → Type 0
IsOutOf to force answer =
    (is_same : Bool) × ((there : Existing)
    × (answer ≡ with_name to (destination_for (bytes_eq to (codes "-")) is_same there force)))

-- why a file was not written: a name that is taken is said to exist
abbrev pub writing_error : WriteError → String Global → OutError
writing_error writing.Taken to = error.Exists to
writing_error (writing.Io cause) to = error.Writing to (writing.Io cause)
writing_error writing.OtherDevice to = error.Writing to writing.OtherDevice
writing_error writing.Crowded to = error.Writing to writing.Crowded
writing_error writing.OutOfMemory to = error.Writing to writing.OutOfMemory

-- what is answered of a file that was written, or not
abbrev pub IsWrittenAs : List ℕ → Result (Unit {0}) WriteError → Result (Unit {0}) OutError → Type 0
IsWrittenAs to (Ok done) answer = answer ≡ Ok tt
IsWrittenAs to (Err why) answer =
    (name : String Global) × ((string_bytes name ≡ to) × (answer ≡ Err (writing_error why name)))
