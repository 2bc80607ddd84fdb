use Rattle.std.proofs.Common.{◌≡◌, length}
use Rattle.exif_grow.specs.ItemFields.{are_closed}
use Rattle.exif_grow.proofs.closed.are_closed.Given as goal

-- whether the boxes that are left are closed is whether all are
abbrev pub invariant-loop-rest : goal.invariant-loop-rest
invariant-loop-rest l = are_closed l.rest ≡ are_closed l.file

abbrev pub decreases-loop-rest : goal.decreases-loop-rest
decreases-loop-rest l = length l.rest
