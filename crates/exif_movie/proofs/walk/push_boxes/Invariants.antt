use Rattle.std.proofs.Common.{length}
use Rattle.exif_movie.proofs.WalkSteps.{Walks}
use Rattle.exif_movie.proofs.walk.push_boxes.Given as goal

-- the parts so far, with those of what is left, are all
abbrev pub invariant-loop-rest : goal.invariant-loop-rest
invariant-loop-rest l = Walks l.container l.level l.from l.bytes l.fn.found.items l.at l.rest l.found.items

abbrev pub decreases-loop-rest : goal.decreases-loop-rest
decreases-loop-rest l = length l.rest
