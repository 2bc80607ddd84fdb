use Rattle.std.proofs.Common.{◌≡◌, length}
use Rattle.exif_isobmff.specs.Extents.{without_first}
use Rattle.exif_isobmff.proofs.ranges.without_first.Given as goal

-- what is left of the ranges without what is left of the bytes is the answer
abbrev pub invariant-loop-first : goal.invariant-loop-first
invariant-loop-first l = without_first l.left l.rest ≡ without_first l.n l.ranges

abbrev pub decreases-loop-first : goal.decreases-loop-first
decreases-loop-first l = length l.rest
