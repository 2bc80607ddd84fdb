-- How much one reading can give.
use Rattle.std.specs.Prelude.{ℕ, ◌+◌, ◌≤◌, min, List, length, ⊤, Option, Some, None, Result, Ok, Err, Vec, Bool}
use Rattle.std.specs.Global.{Global}
use Rattle.exif_types.specs.Contents.{ExifContents}
use Rattle.exif_types.specs.Failures.{Failure}
use Rattle.exif_types.specs.declared.error.Error.TheVariants as error
use Rattle.exif_types.specs.declared.field.Field.{Field}
use Rattle.exif_tiff.specs.Trace.{trace, limited, visits_of}
use Rattle.exif_tiff.specs.Visits.{visits_at_most}

-- the most entries that may be visited: by the length of the data, and by a limit
abbrev pub most_visits : Option ℕ → List ℕ → ℕ
most_visits (Some n) bytes = min n (visits_at_most bytes)
most_visits None bytes = visits_at_most bytes

-- fields and faults that one reading of the data gives: no more than it visits entries, and one
pub record IsBounded (limit : Option ℕ) (bytes : List ℕ) (reports : ℕ) : Type 0 where
  pub by_visits : reports ≤ visits_of (limited limit (trace bytes)) + 1
  pub by_length : reports ≤ most_visits limit bytes + 1

-- the same of what came back, whole or partial, by its own data
abbrev pub ReportsAtMost : Option ℕ → Result ExifContents Failure → Type 0
ReportsAtMost limit (Ok exif) = IsBounded limit exif.buf (length exif.fields)
ReportsAtMost limit (Err (error.PartialResult partial)) =
    IsBounded limit partial.exif.buf (length partial.exif.fields + length partial.faults)
ReportsAtMost limit (Err e) = ⊤

-- the same of the fields of data that were parsed
abbrev pub FieldsAtMost : List ℕ → Result (Vec Field Global × Bool) Failure → Type 0
FieldsAtMost bytes (Ok parsed) = IsBounded None bytes (length parsed.0.items)
FieldsAtMost bytes (Err e) = ⊤
