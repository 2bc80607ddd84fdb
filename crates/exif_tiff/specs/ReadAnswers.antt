-- What is promised of the fields that reading shows.
use Rattle.std.specs.Prelude.{◌≡◌, ℕ, Bool, false, List, Option}
use Rattle.std.specs.List.{All}
use Rattle.exif_types.specs.Sound.{IsRead}
use Rattle.exif_types.specs.declared.field.Field.{Field}
use Rattle.exif_tiff.specs.declared.fault.Fault.{Fault}
use Rattle.exif_tiff.specs.Answers.{Whole, raw_answer, shown}

-- each field that is shown has plain texts and is of one of the first eight directories
abbrev pub ShowsReadFields : Bool → Option ℕ → List ℕ → Type 0
ShowsReadFields lenient limit bytes =
    (fields : List Field) (faults : List Fault)
    → raw_answer lenient limit bytes ≡ shown fields faults → All IsRead fields

-- strict reading shows fields only where there is no fault
abbrev pub ShowsNoFault : Option ℕ → List ℕ → Type 0
ShowsNoFault limit bytes =
    (fields : List Field) (faults : List Fault) → raw_answer false limit bytes ≡ shown fields faults
    → raw_answer false limit bytes ≡ Whole fields
