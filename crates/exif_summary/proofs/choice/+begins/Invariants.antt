use Rattle.std.proofs.Common.{length}
use Rattle.exif_summary.proofs.choice.+begins.Given as goal

-- each call looks behind one byte
abbrev pub decreases-begins : goal.decreases-begins
decreases-begins l = length l.text.now
