-- What lenient reading gives, as data that can be compared.
use Rattle.std.specs.Prelude.{◌≡◌, ℕ, ◌&&◌, Bool, true, false, List, Result, Ok, Err}
use Rattle.std.specs.Bool.{beq}
use Rattle.std.specs.Cmp.Lexicographic.{pointwise}
use Rattle.exif_base.specs.Orders.{number_of}
use Rattle.exif_base.specs.declared.endian.Order.{Order}
use Rattle.exif_base.specs.declared.endian.Order.TheVariants.{Big, Little}
use Rattle.exif_types.specs.FieldEq.{field_eq}
use Rattle.exif_types.specs.declared.field.Field.{Field}
use Rattle.exif_tiff.specs.Trace.{header, ordered_trace, fields_of, faults_of}
use Rattle.exif_tiff.specs.declared.fault.Fault.{Fault}
use Rattle.exif_tiff.specs.declared.fault.Fault.TheVariants.{DataTooLarge, TruncatedHeader, InvalidByteOrder, InvalidFortyTwo, TruncatedCount, TruncatedDirectory, TruncatedNextOffset, TruncatedValue, InvalidPointer, UnexpectedNext, TooManyDirectories, TooManyEntries}
use Rattle.exif_tiff.specs.declared.tiff.Parsed.{Parsed}
use Rattle.exif_tiff.specs.declared.stop.Stop.{Stop}
use Rattle.exif_tiff.specs.declared.stop.Stop.TheVariants as stop

-- the byte order, the fields and the soft faults
pub record Read : Type 0 where
  pub little : Bool
  pub fields : List Field
  pub faults : List Fault

-- whether an order is little endian
abbrev pub is_little : Order → Bool
is_little Little = true
is_little Big = false

-- what the data hold, or what is wrong with their header
unfoldable pub reading : List ℕ → Result Read Fault
reading bytes = elim (header bytes) [
  | Err fault ↦ Err fault
  | Ok order ↦
      let nodes = ordered_trace (number_of order) bytes in
      Ok (record { little = is_little order; fields = fields_of nodes; faults = faults_of nodes })
]

-- what the program has read
abbrev pub read_of : Parsed → Read
read_of parsed = record {
  little = parsed.little_endian;
  fields = parsed.fields.items;
  faults = parsed.faults.items;
}

-- a reading, unless memory ran out
abbrev pub ReadsTo : Result Parsed Stop → Result Read Fault → Type 0
ReadsTo (Ok parsed) answer = answer ≡ Ok (read_of parsed)
ReadsTo (Err (stop.Fault fault)) answer = answer ≡ Err fault
ReadsTo (Err stop.OutOfMemory) answer = Unit {0}

-- whether two faults are one
abbrev pub fault_eq : Fault → Fault → Bool
fault_eq DataTooLarge DataTooLarge = true
fault_eq TruncatedHeader TruncatedHeader = true
fault_eq InvalidByteOrder InvalidByteOrder = true
fault_eq InvalidFortyTwo InvalidFortyTwo = true
fault_eq TruncatedCount TruncatedCount = true
fault_eq TruncatedDirectory TruncatedDirectory = true
fault_eq TruncatedNextOffset TruncatedNextOffset = true
fault_eq TruncatedValue TruncatedValue = true
fault_eq InvalidPointer InvalidPointer = true
fault_eq UnexpectedNext UnexpectedNext = true
fault_eq TooManyDirectories TooManyDirectories = true
fault_eq TooManyEntries TooManyEntries = true
fault_eq _ _ = false

-- whether two readings are one
abbrev pub read_eq : Read → Read → Bool
read_eq a b =
    beq a.little b.little
    && (pointwise field_eq a.fields b.fields && pointwise fault_eq a.faults b.faults)

-- whether the data are read so
abbrev pub reads_as : List ℕ → Read → Bool
reads_as bytes read =
    elim (reading bytes) [ Ok found ↦ read_eq found read | Err fault ↦ false ]
