use Rattle.exif_geotag.proofs.TrackLaws.{north_between, south_between}
use Rattle.exif_geotag.proofs.laws.a_latitude_is_between_two.Goals as goal

pub returns-clause-north : goal.returns-clause-north
returns-clause-north c = north_between

pub returns-clause-south : goal.returns-clause-south
returns-clause-south c = south_between
