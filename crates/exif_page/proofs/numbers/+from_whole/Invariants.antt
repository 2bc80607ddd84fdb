use Rattle.std.proofs.Common.{length}
use Rattle.exif_page.proofs.numbers.+from_whole.Given as goal

-- the digits that are left
abbrev pub decreases-from_whole : goal.decreases-from_whole
decreases-from_whole l = length l.text.now
