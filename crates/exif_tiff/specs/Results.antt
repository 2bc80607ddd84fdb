-- How a result of the code says an answer.
use Rattle.std.specs.Prelude.{◌≡◌, ℕ, List, Result, Ok, Err, IsOk}
use Rattle.exif_base.specs.Orders.{order_named}
use Rattle.exif_tiff.specs.Trace.{header}
use Rattle.exif_tiff.specs.Answers.{Answer, Refused, shown}
use Rattle.exif_tiff.specs.declared.stop.Stop.{Stop}
use Rattle.exif_tiff.specs.declared.stop.Stop.TheVariants as stop
use Rattle.exif_tiff.specs.declared.tiff.Parsed.{Parsed}
use Rattle.exif_tiff.specs.declared.tiff.Placed.{Placed}

-- the parsed data or a fault say the answer; out of memory says nothing
abbrev pub Says : Result Parsed Stop → Answer → Type 0
Says (Ok parsed) answer = answer ≡ shown parsed.fields.items parsed.faults.items
Says (Err (stop.Fault fault)) answer = answer ≡ Refused fault
Says (Err stop.OutOfMemory) answer = Unit {0}

-- memory is requested only after a right header
abbrev pub AsksMemory : Result Parsed Stop → List ℕ → Type 0
AsksMemory (Err stop.OutOfMemory) bytes = IsOk (header bytes)
AsksMemory _ bytes = Unit {0}

-- what was read, without its offsets
abbrev pub parsed_of : Result Placed Stop → Result Parsed Stop
parsed_of (Ok placed) = Ok placed.parsed
parsed_of (Err stop) = Err stop

-- the order of the data
abbrev pub SaysOrder : Result Parsed Stop → List ℕ → Type 0
SaysOrder (Ok parsed) bytes = header bytes ≡ Ok (order_named parsed.little_endian)
SaysOrder _ bytes = Unit {0}
