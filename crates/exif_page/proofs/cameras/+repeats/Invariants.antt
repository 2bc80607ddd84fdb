use Rattle.std.proofs.Common.{length}
use Rattle.exif_page.proofs.cameras.+repeats.Given as goal

-- the bytes of the model that are left
abbrev pub decreases-repeats : goal.decreases-repeats
decreases-repeats l = length l.model.now
