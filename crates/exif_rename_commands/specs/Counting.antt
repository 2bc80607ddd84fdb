-- What is counted of a run.
use Rattle.std.specs.Prelude.{List, [], ◌∷◌}
use Rattle.exif_decisions.specs.Tallies.{counted}
use Rattle.exif_decisions.specs.declared.counts.Counts.{Counts}
use Rattle.exif_decisions.specs.declared.outcome.Outcome.{Outcome}
use Rattle.exif_files.specs.declared.outcome.Status.{Status}
use Rattle.exif_inputs.specs.Pending.{with_counts}
use Rattle.exif_inputs.specs.declared.pending.Pending.{Pending}

-- the same files, with this status of things beside them
abbrev pub beside_as : Status → Pending → Pending
beside_as status pending = with_counts (record pending.counts { beside = status }) pending

-- files of these outcomes, the last first
abbrev pub counted_all : List Outcome → Counts → Counts
counted_all [] counts = counts
counted_all (outcome ∷ outcomes) counts = counted outcome (counted_all outcomes counts)
