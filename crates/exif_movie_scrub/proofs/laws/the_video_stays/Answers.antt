use Rattle.exif_movie_scrub.proofs.Kept.{kept}
use Rattle.exif_movie_scrub.proofs.laws.the_video_stays.Goals as goal

pub returns-clause-length : goal.returns-clause-length
returns-clause-length c = λ request file. (kept request file).long

pub returns-clause-played : goal.returns-clause-played
returns-clause-played c = λ request file. (kept request file).played

pub returns-clause-each : goal.returns-clause-each
returns-clause-each c = λ request file. (kept request file).each
