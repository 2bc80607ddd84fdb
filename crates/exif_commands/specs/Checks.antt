-- What is written and counted of a file whose parts were checked.
use Rattle.std.specs.Prelude.{ℕ, ◌==◌, Bool, true, false, List, ◌++◌, codes, Result, Ok, Err, Vec, if◌then◌else◌}
use Rattle.std.specs.Fmt.{decimal}
use Rattle.std.specs.Global.{Global}
use Rattle.json.specs.Print.{print}
use Rattle.json.specs.Tree.{json_tokens}
use Rattle.exif_check.specs.Answered.{checked_answer}
use Rattle.exif_check.specs.Checking.{location_of, only_maker_notes}
use Rattle.exif_check.specs.Json.{checked_json}
use Rattle.exif_check.specs.Lines.{lines_text}
use Rattle.exif_check.specs.declared.checked.Checked.{Checked}
use Rattle.exif_check.specs.declared.checked.Location.{Location}
use Rattle.exif_check.specs.declared.checked.Location.TheVariants.{Absent, Present, Unknown}
use Rattle.exif_decisions.specs.Escaping.{escaped_text}
use Rattle.exif_decisions.specs.declared.outcome.Outcome.{Outcome}
use Rattle.exif_decisions.specs.declared.outcome.Outcome.TheVariants.{Done, Partial, Refused}
use Rattle.exif_formats.specs.Formats.{format_in}
use Rattle.exif_session.specs.declared.request.Form.{Form}
use Rattle.exif_session.specs.declared.request.Form.TheVariants.{Lines, Json}
use Rattle.exif_types.specs.Failures.{Failure}
use Rattle.exif_types.specs.Refusals.{Refusal}

-- All is well only where no location was found, and none may be there; but for what maker notes may
-- hold, unless the check is strict.
abbrev pub outcome_by : Location → Bool → Bool → Outcome
outcome_by Absent only_maker_notes strict = Done
outcome_by Present only_maker_notes strict = Partial
outcome_by Unknown true false = Done
outcome_by Unknown true true = Partial
outcome_by Unknown false strict = Partial

-- the lines of the parts behind the name, whose control characters are escaped, or the object of
-- the file in a line
abbrev pub text_with : Form → List ℕ → List ℕ → List Checked → List ℕ
text_with Lines path file parts = lines_text (escaped_text path) parts
text_with Json path file parts =
    print (json_tokens (checked_json path (format_in file) parts)) ++ codes "\n"

-- what is written and counted of a file with these parts
abbrev pub checked_with : Form → Bool → List ℕ → List ℕ → List Checked → List ℕ × Outcome
checked_with form strict path file parts = (
  text_with form path file parts,
  outcome_by (location_of parts) (only_maker_notes parts) strict,
)

-- the same where its parts are known
abbrev pub checked_if : Form → Bool → List ℕ → List ℕ → Result (List Checked) Refusal
    → Result (List ℕ × Outcome) Refusal
checked_if form strict path file (Ok parts) = Ok (checked_with form strict path file parts)
checked_if form strict path file (Err why) = Err why

-- what is written and counted of a file, or why it is refused
abbrev pub checked_file : Form → Bool → List ℕ → List ℕ → Result (List ℕ × Outcome) Refusal
checked_file form strict path file = checked_if form strict path file (checked_answer file)

-- a text and an outcome, as plain data
abbrev pub checked_as : Vec ℕ Global × Outcome → List ℕ × Outcome
checked_as answer = (answer.0.items, answer.1)

-- what is counted of a file of which this was answered
abbrev pub outcome_checked : Result (Vec ℕ Global × Outcome) Failure → Outcome
outcome_checked (Ok answer) = answer.1
outcome_checked (Err e) = Refused

-- how many files of the program's own were not checked
abbrev pub unchecked_line : ℕ → List ℕ
unchecked_line count =
    if count == 1 then codes "mexaldor: 1 backup or temporary file was not checked\n" else
    codes "mexaldor: " ++ (decimal count ++ codes " backups or temporary files were not checked\n")
