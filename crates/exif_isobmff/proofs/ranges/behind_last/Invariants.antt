use Rattle.std.proofs.Common.{◌≡◌, [], length}
use Rattle.exif_isobmff.specs.Extents.{behind_last}
use Rattle.exif_isobmff.proofs.ranges.behind_last.Given as goal

-- what was found, with the boxes that are left, is what is found in all
abbrev pub invariant-loop-rest : goal.invariant-loop-rest
invariant-loop-rest l = behind_last l.wanted l.found l.rest ≡ behind_last l.wanted [] l.fn.boxes

abbrev pub decreases-loop-rest : goal.decreases-loop-rest
decreases-loop-rest l = length l.rest
