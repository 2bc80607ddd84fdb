use Rattle.std.proofs.Common.{length}
use Rattle.exif_parts.specs.Jxl.{boxes_filtered}
use Rattle.exif_parts.proofs.JxlSteps.{Runs}
use Rattle.exif_parts.proofs.jxl.boxes_filtered.Given as goal

-- what is left becomes what all becomes
abbrev pub invariant-loop-rest : goal.invariant-loop-rest
invariant-loop-rest l = Runs l.remove (boxes_filtered (length l.boxes) l.remove l.boxes l.fn.front.items) l.rest l.out.items

abbrev pub decreases-loop-rest : goal.decreases-loop-rest
decreases-loop-rest l = length l.rest
