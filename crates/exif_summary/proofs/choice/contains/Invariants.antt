use Rattle.std.proofs.Common.{length, ◌≡◌}
use Rattle.exif_summary.specs.Choices.{contains}
use Rattle.exif_summary.proofs.choice.contains.Given as goal

-- the text contains the other one if its rest does
abbrev pub invariant-loop-rest : goal.invariant-loop-rest
invariant-loop-rest l = contains l.part l.rest ≡ contains l.part l.text

-- each turn looks behind one byte
abbrev pub decreases-loop-rest : goal.decreases-loop-rest
decreases-loop-rest l = length l.rest
