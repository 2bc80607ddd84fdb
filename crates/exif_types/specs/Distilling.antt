-- What distilling an error does.
use Rattle.std.specs.Prelude.{◌≡◌, map, ⊤, Result, Ok, Err, Vec}
use Rattle.std.specs.Global.{Global}
use Rattle.exif_types.specs.Contents.{ExifContents}
use Rattle.exif_types.specs.Failures.{told_text}
use Rattle.exif_types.specs.declared.error.Error.{Error}
use Rattle.exif_types.specs.declared.error.Error.TheVariants as error

-- the fact holds of any list of the faults of a partial result
abbrev pub ForFaults : {Text : Type 0} → Error Text → (Vec (Error Text) Global → Type 0) → Type 0
ForFaults {Text} (error.PartialResult partial) P = (errors : Vec (Error Text) Global)
    → map told_text errors.items ≡ partial.faults → P errors
ForFaults _ P = ⊤

-- the faults of a partial result went to a call, and its fields came back; any other error came
-- back as it was
abbrev pub Distills : {Text : Type 0} → Error Text → Result ExifContents (Error Text)
    → (Vec (Error Text) Global → Type 0) → Type 0
Distills {Text} (error.PartialResult partial) result P =
    (result ≡ Ok partial.exif) × (errors : Vec (Error Text) Global)
    × (map told_text errors.items ≡ partial.faults) × P errors
Distills e result P = result ≡ Err e
