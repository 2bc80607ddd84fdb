use Rattle.std.proofs.Common.{length}
use Rattle.exif_page.proofs.dates.+fits.Given as goal

-- what is left of the form
abbrev pub decreases-fits : goal.decreases-fits
decreases-fits l = length l.forms.now
