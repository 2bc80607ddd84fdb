use Rattle.std.proofs.Common.{length}
use Rattle.exif_inventory.specs.Walks.{none, walk_view}
use Rattle.exif_inventory.proofs.WalkSteps.{Walks}
use Rattle.exif_inventory.proofs.walk.parts_from.Given as goal

-- the parts with those of what is left are those of the file; they are in order, and end where it
-- begins
abbrev pub invariant-loop-rest : goal.invariant-loop-rest
invariant-loop-rest l = Walks l.fn.start l.file none l.state l.rest (walk_view l.walk)

abbrev pub decreases-loop-rest : goal.decreases-loop-rest
decreases-loop-rest l = length l.rest
