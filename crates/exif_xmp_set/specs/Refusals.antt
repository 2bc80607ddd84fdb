-- Why a text is not set, and what a call answers where a definition computes one.
use Rattle.std.specs.Prelude.{◌≡◌, Result, Ok, Err}
use Rattle.exif_xmp.specs.declared.fault.ReadError as reader
use Rattle.exif_xmp.specs.declared.fault.ReadError.TheVariants as reader_errors
use Rattle.exif_xmp.specs.declared.fault.Refusal.{Refusal}
use Rattle.exif_xmp_set.specs.declared.fault.Reason.{Reason}
use Rattle.exif_xmp_set.specs.declared.fault.Reason.TheVariants.{Packet}
use Rattle.exif_xmp_set.specs.declared.fault.SetError.{SetError}
use Rattle.exif_xmp_set.specs.declared.fault.SetError.TheVariants as errors

-- a refusal of the reader
abbrev pub of_reader : {A : Type 0} → Result A Refusal → Result A Reason
of_reader (Ok x) = Ok x
of_reader (Err r) = Err (Packet r)

abbrev pub error_of_reader : reader.ReadError → SetError
error_of_reader reader_errors.OutOfMemory = errors.OutOfMemory
error_of_reader (reader_errors.Refused r) = errors.Refused (Packet r)

-- an error of a call, where a definition answers `value`
abbrev pub Fails : {Y : Type 0} → SetError → Result Y Reason → Type 0
Fails errors.OutOfMemory value = Unit {0}
Fails (errors.Refused r) value = value ≡ Err r

-- a call answers, seen by a view, what a definition answers, unless memory runs out
abbrev pub Gives : {X Y : Type 0} → (X → Y) → Result X SetError → Result Y Reason → Type 0
Gives view (Ok x) value = value ≡ Ok (view x)
Gives view (Err e) value = Fails e value
