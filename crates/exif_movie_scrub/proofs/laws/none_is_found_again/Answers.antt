use Rattle.exif_movie_scrub.proofs.Kept.{no_dates_again, no_location_again, no_metadata_again}
use Rattle.exif_movie_scrub.proofs.laws.none_is_found_again.Goals as goal

pub returns-clause-locations : goal.returns-clause-locations
returns-clause-locations c = no_location_again

pub returns-clause-metadata : goal.returns-clause-metadata
returns-clause-metadata c = no_metadata_again

pub returns-clause-dates : goal.returns-clause-dates
returns-clause-dates c = no_dates_again
