-- What a parser's step says of its progress.
use Rattle.std.specs.Prelude.{◌≡◌, ◌+◌, List, ◌++◌, Option, Some, None, Result, Ok, Err}
use Rattle.exif_tiff.specs.Trace.{Node, visits_of}
use Rattle.exif_tiff.specs.Running.{Progress}
use Rattle.exif_tiff.specs.declared.fault.Fault.{Fault}
use Rattle.exif_tiff.specs.declared.stop.Stop.{Stop}
use Rattle.exif_tiff.specs.declared.stop.Stop.TheVariants as stop

-- a step ended or stopped as the trace says, unless memory ran out
abbrev pub Follows : Result (Unit {0}) Stop → Progress → Progress × Option Fault → Type 0
Follows (Ok _) new outcome = outcome ≡ (new, None)
Follows (Err stop.OutOfMemory) new outcome = Unit {0}
Follows (Err (stop.Fault fault)) new outcome = outcome ≡ (new, Some fault)

-- as many turns were taken as the trace that was walked has visits: the whole trace, or what is
-- before the stop
abbrev pub CountsTurns : Result (Unit {0}) Stop → Progress → Progress → List Node → Type 0
CountsTurns (Ok _) old new nodes = new.left + visits_of nodes ≡ old.left
CountsTurns (Err stop.OutOfMemory) old new nodes = Unit {0}
CountsTurns (Err (stop.Fault fault)) old new nodes =
    (walked rest : List Node) × (nodes ≡ walked ++ rest) × (new.left + visits_of walked ≡ old.left)
