use Rattle.exif_scrub.proofs.TiffTwice.{twice}
use Rattle.exif_scrub.proofs.tiff.laws.scrubbing_twice_is_once.Goals as goal

pub returns : goal.returns
returns c = twice
