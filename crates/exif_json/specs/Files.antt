-- The JSON of a file.
use Rattle.std.specs.Prelude.{ℕ, Bool, List, [], ◌∷◌, ◌++◌, codes, map, if◌then◌else◌, Option, None, Some, option_map}
use Rattle.json.specs.Json as J
use Rattle.json.specs.Json.{Json}
use Rattle.exif_types.specs.Contents.{ExifContents}
use Rattle.exif_types.specs.Failures.{Failure, told_text, bytes_of, error_text}
use Rattle.exif_types.specs.declared.error.Error.TheVariants as error
use Rattle.exif_types.specs.declared.tag.Tag.{Tag}
use Rattle.exif_formats.specs.Formats.{format_name}
use Rattle.exif_formats.specs.declared.format.PictureFormat.{PictureFormat}
use Rattle.exif_json.specs.Trees.{array, object}
use Rattle.exif_json.specs.Texts.{text_json}
use Rattle.exif_json.specs.Fields.{chosen_json}
use Rattle.exif_json.specs.Summaries.{maybe, summary_json}

-- a format as its name
abbrev pub format_json : PictureFormat → Json
format_json format = J.string (format_name format)

-- the name of an order of bytes
abbrev pub order_name : Bool → List ℕ
order_name little = if little then codes "little" else codes "big"

-- the file's path, whose encoding is the system's, and its format, if it is known
abbrev pub file_members : List ℕ → Option PictureFormat → List (List ℕ × Json)
file_members path format =
    (codes "path", text_json path) ∷ maybe (codes "format") format_json format

-- the text of a fault
abbrev pub fault_json : Failure → Json
fault_json fault = J.string (bytes_of (told_text fault))

-- the texts of faults that were skipped
abbrev pub faults_json : List Failure → Json
faults_json faults = array (map fault_json faults)

-- what was read of a file, with the fields that are chosen
abbrev pub chosen_members : Option (List Tag) → ExifContents → List Failure → List (List ℕ × Json)
chosen_members tags exif faults =
    (codes "byte_order", J.string (order_name exif.little_endian))
    ∷ (codes "summary", summary_json exif.fields)
    ∷ (codes "fields", chosen_json tags exif.fields)
    ∷ (codes "faults", faults_json faults) ∷ []

-- a file that was read, with the fields that are chosen
abbrev pub chosen_answer : Option (List Tag) → List ℕ → Option PictureFormat → ExifContents
    → List Failure → Json
chosen_answer tags path format exif faults =
    object (file_members path format ++ chosen_members tags exif faults)

-- with all fields
abbrev pub answer_json : List ℕ → Option PictureFormat → ExifContents → List Failure → Json
answer_json path format exif faults = chosen_answer None path format exif faults

-- and with those that have one of some tags
abbrev pub tags_json : List Tag → List ℕ → Option PictureFormat → ExifContents → List Failure → Json
tags_json tags path format exif faults = chosen_answer (Some tags) path format exif faults

-- no summary, no fields and no faults
abbrev pub no_exif_members : List (List ℕ × Json)
no_exif_members =
    (codes "summary", object []) ∷ (codes "fields", array []) ∷ (codes "faults", array []) ∷ []

-- a picture without Exif data
abbrev pub no_exif_json : List ℕ → Option PictureFormat → Json
no_exif_json path format = object (file_members path format ++ no_exif_members)

-- a file that could not be read, with the text of the error
abbrev pub error_json : List ℕ → Option PictureFormat → List ℕ → Json
error_json path format said =
    object (file_members path format ++ ((codes "error", J.string said) ∷ []))

-- a file of which nothing was read: one without Exif data is no error, and an error of a device
-- has the system's text, which is not defined here
abbrev pub refusal_json : List ℕ → Option PictureFormat → Failure → Option Json
refusal_json path format (error.NotFound what) = Some (no_exif_json path format)
refusal_json path format e = option_map (error_json path format) (error_text e)
