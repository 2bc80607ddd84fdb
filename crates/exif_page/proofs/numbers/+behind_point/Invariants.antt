use Rattle.std.proofs.Common.{length}
use Rattle.exif_page.proofs.numbers.+behind_point.Given as goal

-- the digits that are left
abbrev pub decreases-behind_point : goal.decreases-behind_point
decreases-behind_point l = length l.text.now
