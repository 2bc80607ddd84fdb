-- The error that a stop becomes.
use Rattle.std.specs.Prelude.{◌≡◌, Some}
use Rattle.exif_types.specs.Failures.{Failure}
use Rattle.exif_types.specs.Refusals.{refusal_of}
use Rattle.exif_types.specs.declared.error.Error.TheVariants as error
use Rattle.exif_tiff.specs.Faults.{refusal}
use Rattle.exif_tiff.specs.declared.stop.Stop.{Stop}
use Rattle.exif_tiff.specs.declared.stop.Stop.TheVariants as stop

-- the error that a stop becomes: out of memory, or one that is the refusal of its fault
abbrev pub Becomes : Stop → Failure → Type 0
Becomes stop.OutOfMemory e = e ≡ error.OutOfMemory
Becomes (stop.Fault fault) e = refusal_of e ≡ Some (refusal fault)
