use Rattle.exif_movie_scrub.proofs.Twice.{unstable_if, unstable_is}
use Rattle.exif_movie_scrub.proofs.laws.refusals_are_known.Goals as goal

pub returns-clause-unstable : goal.returns-clause-unstable
returns-clause-unstable c = λ request file new. (unstable_is request file new, unstable_if request file new)
