-- Refusals, and what a call answers where a definition computes one.
use Rattle.std.specs.Prelude.{◌≡◌, ℕ, Result, Ok, Err}
use Rattle.exif_xml.specs.declared.fault.Fault as xml
use Rattle.exif_xml.specs.declared.fault.Fault.TheVariants as xml_faults
use Rattle.exif_xml.specs.declared.fault.ReadError as xml_error
use Rattle.exif_xml.specs.declared.fault.ReadError.TheVariants as xml_errors
use Rattle.exif_xml.specs.declared.fault.Refusal as xml_refusal
use Rattle.exif_xmp.specs.declared.fault.Fault.{Fault}
use Rattle.exif_xmp.specs.declared.fault.Fault.TheVariants.{Xml}
use Rattle.exif_xmp.specs.declared.fault.Refusal.{Refusal}
use Rattle.exif_xmp.specs.declared.fault.ReadError.{ReadError}
use Rattle.exif_xmp.specs.declared.fault.ReadError.TheVariants as errors

-- a fault at an offset
abbrev pub located : {A : Type 0} → ℕ → Result A Fault → Result A Refusal
located offset (Ok x) = Ok x
located offset (Err f) = Err (record { fault = f; offset = offset })

-- a fault of XML, in a packet
abbrev pub of_xml : {A : Type 0} → Result A xml.Fault → Result A Fault
of_xml (Ok x) = Ok x
of_xml (Err f) = Err (Xml f)

-- a refusal of XML, in a packet
abbrev pub refusal_of_xml : xml_refusal.Refusal → Refusal
refusal_of_xml r = record { fault = Xml r.fault; offset = r.offset }

abbrev pub refused_by_xml : {A : Type 0} → Result A xml_refusal.Refusal → Result A Refusal
refused_by_xml (Ok x) = Ok x
refused_by_xml (Err r) = Err (refusal_of_xml r)

abbrev pub error_of_xml : xml_error.ReadError → ReadError
error_of_xml xml_errors.OutOfMemory = errors.OutOfMemory
error_of_xml (xml_errors.Refused r) = errors.Refused (refusal_of_xml r)

abbrev pub truncated : ℕ → Refusal
truncated offset = record { fault = Xml xml_faults.Truncated; offset = offset }

-- an error of a call, where a definition answers `read`
abbrev pub Fails : {Y : Type 0} → ReadError → Result Y Refusal → Type 0
Fails errors.OutOfMemory read = Unit {0}
Fails (errors.Refused r) read = read ≡ Err r

-- a call answers, seen by a view, what a definition answers, unless memory runs out
abbrev pub Gives : {X Y : Type 0} → (X → Y) → Result X ReadError → Result Y Refusal → Type 0
Gives view (Ok x) read = read ≡ Ok (view x)
Gives view (Err e) read = Fails e read
