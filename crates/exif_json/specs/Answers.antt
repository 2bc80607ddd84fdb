-- The JSON of what a reader answers of a file.
use Rattle.std.specs.Prelude.{◌≡◌, ℕ, List, [], Option, Result, Ok, Err, Some, IfSome, map}
use Rattle.json.specs.Json.{Json, document}
use Rattle.json.specs.Print.{print}
use Rattle.json.specs.Tree.{json_tokens}
use Rattle.exif_types.specs.Contents.{ExifContents}
use Rattle.exif_types.specs.Failures.{Failure, told_text}
use Rattle.exif_types.specs.declared.error.Error.TheVariants as error
use Rattle.exif_formats.specs.declared.format.PictureFormat.{PictureFormat}
use Rattle.exif_types.specs.declared.tag.Tag.{Tag}
use Rattle.exif_json.specs.Files.{answer_json, refusal_json, tags_json}

-- a text is the print of a value, and is read back as it
abbrev pub IsPrinted : Json → List ℕ → Type 0
IsPrinted json text = (text ≡ print (json_tokens json)) × (document text ≡ Some json)

-- a text is the JSON of an answer: of what was read, with the faults that were skipped, of a
-- picture without Exif data, or of the error, but for that of a device, whose text is the system's
abbrev pub IsAnswered : (ExifContents → List Failure → Json) → List ℕ → Option PictureFormat
    → Result ExifContents Failure → List ℕ → Type 0
IsAnswered json path format (Ok exif) text = IsPrinted (json exif []) text
IsAnswered json path format (Err (error.PartialResult partial)) text =
    (faults : List Failure) × (map told_text faults ≡ partial.faults)
    × IsPrinted (json partial.exif faults) text
IsAnswered json path format (Err e) text =
    IfSome (refusal_json path format e) (λ json. IsPrinted json text)

-- with all fields
abbrev pub IsJsonOf : List ℕ → Option PictureFormat → Result ExifContents Failure → List ℕ → Type 0
IsJsonOf path format answer text = IsAnswered (answer_json path format) path format answer text

-- with those that have one of some tags
abbrev pub IsJsonOfTags : List Tag → List ℕ → Option PictureFormat → Result ExifContents Failure
    → List ℕ → Type 0
IsJsonOfTags tags path format answer text =
    IsAnswered (tags_json tags path format) path format answer text
