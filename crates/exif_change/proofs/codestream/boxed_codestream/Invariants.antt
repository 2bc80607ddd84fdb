use Rattle.std.proofs.Common.{length}
use Rattle.exif_change.specs.Codestreams.{boxed_codestream}
use Rattle.exif_change.proofs.CodestreamSteps.{Walks}
use Rattle.exif_change.proofs.codestream.boxed_codestream.Given as goal

-- the codestream of what is left, behind what was found, is that of all bytes
abbrev pub invariant-loop-rest : goal.invariant-loop-rest
invariant-loop-rest l = Walks (boxed_codestream l.bytes) l.rest l.found

abbrev pub decreases-loop-rest : goal.decreases-loop-rest
decreases-loop-rest l = length l.rest
