-- The JSON of a partial result.
use Rattle.std.proofs.Common.{◌≡◌, ℕ, List, Option, Some, Result, Ok, Err, IfOk, map, subst}
use Rattle.std.specs.Borrow.{Bor}
use Rattle.json.specs.Json.{Json, document}
use Rattle.json.specs.Print.{print}
use Rattle.json.specs.Tree.{json_tokens}
use Rattle.exif_types.specs.Contents.{ExifContents, PartialContents}
use Rattle.exif_types.specs.Failures.{Failure, told_text}
use Rattle.exif_types.specs.declared.error.Error.TheVariants as error
use Rattle.exif_formats.specs.declared.format.PictureFormat.{PictureFormat}
use Rattle.exif_json.specs.Answers.{IsAnswered, IsPrinted}

-- what was read, printed with the faults that were skipped, is the JSON of the partial result
pub partial_json : {A E : Type 0} (json : ExifContents → List Failure → Json) (items : A → List ℕ) (r : Result A E) (path : List ℕ) (format : Option PictureFormat)
    (partial : PartialContents (Bor (List ℕ))) (exif : ExifContents) (faults : List Failure)
    → exif ≡ partial.exif → map told_text faults ≡ partial.faults
    → IfOk r (λ a. items a ≡ print (json_tokens (json exif faults)))
    → IfOk r (λ a. document (items a) ≡ Some (json exif faults))
    → IfOk r (λ a. IsAnswered json path format (Err (error.PartialResult partial)) (items a))
partial_json json items (Ok a) path format partial exif faults same told text back =
    (faults, told, subst (λ (x : ExifContents). IsPrinted (json x faults) (items a)) same (text, back))
partial_json json items (Err e) path format partial exif faults same told text back = tt
