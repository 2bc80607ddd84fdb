-- What is read of a file before it is changed: all fields, whatever faults there are.
use Rattle.std.specs.Prelude.{ℕ, true, List, [], Option, Some, None, Result, Ok, Err}
use Rattle.std.specs.Borrow.{Bor}
use Rattle.exif_base.specs.Orders.{order_named}
use Rattle.exif_base.specs.declared.endian.Order.{Order}
use Rattle.exif_text.specs.declared.ifd.In.{In}
use Rattle.exif_types.specs.Contents.{ExifContents}
use Rattle.exif_types.specs.Failures.{Failure}
use Rattle.exif_types.specs.declared.error.Error.TheVariants as error
use Rattle.exif_types.specs.Refusals.{Refusal, ◌>>=◌}
use Rattle.exif_types.specs.declared.field.Field.{Field}
use Rattle.exif_tiff.specs.Answers.{Answer, Partial, Refused, Whole, raw_answer}
use Rattle.exif_tiff.specs.Faults.{refusal}
use Rattle.exif_tiff.specs.Trace.{header}
use Rattle.exif_tiff.specs.declared.fault.Fault.{Fault}
use Rattle.exif_containers.specs.Container.{container_answer}

-- how many entries of a file are read at most
abbrev pub entry_limit : Option ℕ
entry_limit = Some 1000000

-- the primary image
abbrev pub primary : In
primary = record { 0 = 0 }

-- the data, their order and their fields
pub record Contents : Type 0 where
  pub bytes : List ℕ
  pub order : Order
  pub fields : List Field

-- those of what was read
abbrev pub contents_of : ExifContents → Contents
contents_of exif = record {
  bytes = exif.buf;
  order = order_named exif.little_endian;
  fields = exif.fields;
}

-- what was read, whatever faults there were
abbrev pub faults_skipped : Result ExifContents Failure → Result ExifContents Failure
faults_skipped (Ok exif) = Ok exif
faults_skipped (Err (error.PartialResult partial)) = Ok partial.exif
faults_skipped (Err e) = Err e

-- the fields of an answer, whatever faults there are
abbrev pub fields_in : Answer → Result (List Field) Refusal
fields_in (Whole fields) = Ok fields
fields_in (Partial fields faults) = Ok fields
fields_in (Refused fault) = Err (refusal fault)

-- what has no fault
abbrev pub without_fault : {A : Type 0} → Result A Fault → Result A Refusal
without_fault (Ok x) = Ok x
without_fault (Err fault) = Err (refusal fault)

-- what is read of data
unfoldable pub data_contents : List ℕ → Result Contents Refusal
data_contents bytes = do
  fields ← fields_in (raw_answer true entry_limit bytes)
  order ← without_fault (header bytes)
  Ok (record { bytes = bytes; order = order; fields = fields })

-- what is read of a file
abbrev pub file_contents : List ℕ → Result Contents Refusal
file_contents file = container_answer file >>= data_contents

-- the fields that were read, if there are Exif data
abbrev pub fields_read : Option (Bor ExifContents) → List Field
fields_read (Some exif) = exif.now.fields
fields_read None = []
