-- What the public calls say of data.
use Rattle.std.specs.Prelude.{◌≡◌, ℕ, ◌++◌, Bool, map, List, Option, Result, Ok, Err, IsOk, MatchOption, Vec}
use Rattle.std.specs.Global.{Global}
use Rattle.exif_base.specs.Orders.{order_named}
use Rattle.exif_types.specs.Contents.{ExifContents}
use Rattle.exif_types.specs.Failures.{Failure, bytes_of}
use Rattle.exif_types.specs.Refusals.{Refusal, refusal_of}
use Rattle.exif_types.specs.declared.error.Error.TheVariants as error
use Rattle.exif_types.specs.declared.field.Field.{Field}
use Rattle.exif_tiff.specs.Faults.{text_of, refusal}
use Rattle.exif_tiff.specs.Trace.{header}
use Rattle.exif_tiff.specs.Answers.{Answer, Refused, Whole, Partial}
use Rattle.exif_tiff.specs.declared.fault.Fault.{Fault}

-- how a reader reads: whether it passes over faults, and how many entries it may visit
pub record Mode : Type 0 where
  pub lenient : Bool
  pub limit : Option ℕ

-- the contents are those of the data
abbrev pub HoldsData : ExifContents → List ℕ → Type 0
HoldsData exif bytes = (exif.buf ≡ bytes) × (header bytes ≡ Ok (order_named exif.little_endian))

-- the data are refused as this
abbrev pub IsRefusal : Answer → Refusal → Type 0
IsRefusal answer r = (fault : Fault) × (answer ≡ Refused fault) × (r ≡ refusal fault)

-- an error is the answer's refusal, or no refusal at all, and then P holds of it
abbrev pub FailsAs : Answer → (Failure → Type 0) → Failure → Type 0
FailsAs answer P e = MatchOption (refusal_of e) (P e) (IsRefusal answer)

-- the contents are those of the data, or of a front of them
abbrev pub HoldsFront : ExifContents → List ℕ → Type 0
HoldsFront exif bytes =
    ((rest : List ℕ) × (bytes ≡ exif.buf ++ rest))
    × (header bytes ≡ Ok (order_named exif.little_endian))

-- the fields are all there are; or they come with the faults; or the data are refused; H ties the
-- contents to the data, and P holds of other errors
abbrev pub ReadsHeld : (ExifContents → List ℕ → Type 0) → (Failure → Type 0) → Answer → List ℕ
    → Result ExifContents Failure → Type 0
ReadsHeld H P answer bytes (Ok exif) = (answer ≡ Whole exif.fields) × H exif bytes
ReadsHeld H P answer bytes (Err (error.PartialResult partial)) =
    (faults : List Fault)
    × (answer ≡ Partial partial.exif.fields faults)
    × (map bytes_of partial.faults ≡ map text_of faults)
    × H partial.exif bytes
ReadsHeld H P answer bytes (Err e) = FailsAs answer P e

-- the same where the contents are those of the data
abbrev pub ReadsOr : (Failure → Type 0) → Answer → List ℕ → Result ExifContents Failure → Type 0
ReadsOr = ReadsHeld HoldsData

-- out of memory, which comes only behind a right header
abbrev pub RunsOut : List ℕ → Failure → Type 0
RunsOut bytes e = (e ≡ error.OutOfMemory) × IsOk (header bytes)

-- what data in memory are read as
abbrev pub ReadsAs : Answer → List ℕ → Result ExifContents Failure → Type 0
ReadsAs answer bytes = ReadsOr (RunsOut bytes) answer bytes

-- the fields in their order, and whether the data are little endian; or the data are refused
abbrev pub ParsesAs : Answer → List ℕ → Result (Vec Field Global × Bool) Failure → Type 0
ParsesAs answer bytes (Ok parsed) =
    (answer ≡ Whole parsed.0.items) × (header bytes ≡ Ok (order_named parsed.1))
ParsesAs answer bytes (Err e) = FailsAs answer (RunsOut bytes) e
