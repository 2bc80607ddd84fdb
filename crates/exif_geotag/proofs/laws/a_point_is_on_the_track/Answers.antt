use Rattle.exif_geotag.proofs.TrackLaws.{point_is_there}
use Rattle.exif_geotag.proofs.laws.a_point_is_on_the_track.Goals as goal

pub returns : goal.returns
returns c = point_is_there
