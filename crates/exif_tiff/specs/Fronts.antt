-- What a front of data says of all of them.
use Rattle.std.specs.Prelude.{◌≡◌, ℕ, ◌<◌, ◌≤◌, ◌^◌, Bool, false, List, ◌++◌, length, Option, Ok}
use Rattle.exif_base.specs.declared.endian.Order.{Order}
use Rattle.exif_types.specs.declared.field.Field.{Field}
use Rattle.exif_tiff.specs.Answers.{Refused, Whole, raw_answer}
use Rattle.exif_tiff.specs.Trace.{header}
use Rattle.exif_tiff.specs.declared.fault.Fault.TheVariants.{DataTooLarge}

-- a front in which strict reading meets no fault gives all the fields, whatever follows it, in both
-- modes, unless there is too much of it
abbrev pub FrontSaysAll : Bool → Option ℕ → List ℕ → List ℕ → Type 0
FrontSaysAll lenient limit front rest =
    (fields : List Field) → raw_answer false limit front ≡ Whole fields
    → length (front ++ rest) < 2 ^ 32
    → raw_answer lenient limit (front ++ rest) ≡ Whole fields

-- and so does the header that it holds
abbrev pub FrontHasHeader : List ℕ → List ℕ → Type 0
FrontHasHeader front rest =
    (order : Order) → header front ≡ Ok order → length (front ++ rest) < 2 ^ 32
    → header (front ++ rest) ≡ Ok order

-- where there is too much, all is refused
abbrev pub TooLargeIsRefused : Bool → Option ℕ → List ℕ → Type 0
TooLargeIsRefused lenient limit bytes =
    2 ^ 32 ≤ length bytes → raw_answer lenient limit bytes ≡ Refused DataTooLarge
