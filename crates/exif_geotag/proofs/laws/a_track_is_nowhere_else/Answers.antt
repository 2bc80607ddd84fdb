use Rattle.exif_geotag.proofs.TrackLaws.{nothing_before, nothing_behind}
use Rattle.exif_geotag.proofs.laws.a_track_is_nowhere_else.Goals as goal

pub returns-clause-before : goal.returns-clause-before
returns-clause-before c = nothing_before

pub returns-clause-behind : goal.returns-clause-behind
returns-clause-behind c = nothing_behind
