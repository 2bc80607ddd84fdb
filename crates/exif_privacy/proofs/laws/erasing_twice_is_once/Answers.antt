use Rattle.exif_privacy.proofs.TwiceSteps.{twice}
use Rattle.exif_privacy.proofs.laws.erasing_twice_is_once.Goals as goal

pub returns : goal.returns
returns c = twice
