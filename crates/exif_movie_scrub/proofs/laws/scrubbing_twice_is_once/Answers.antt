use Rattle.exif_movie_scrub.proofs.Twice.{twice}
use Rattle.exif_movie_scrub.proofs.laws.scrubbing_twice_is_once.Goals as goal

pub returns : goal.returns
returns c = twice
