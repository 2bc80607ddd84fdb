use Rattle.exif_scrub.proofs.HeifTwice.{twice}
use Rattle.exif_scrub.proofs.heif.laws.scrubbing_twice_is_once.Goals as goal

pub returns : goal.returns
returns c = twice
