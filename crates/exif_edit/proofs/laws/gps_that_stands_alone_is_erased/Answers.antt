use Rattle.exif_edit.proofs.GpsUnshared.{gps_unshared}
use Rattle.exif_edit.proofs.laws.gps_that_stands_alone_is_erased.Goals as goal

pub returns : goal.returns
returns c = gps_unshared
