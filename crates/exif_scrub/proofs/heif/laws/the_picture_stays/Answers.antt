use Rattle.exif_scrub.proofs.Stays.{kept}
use Rattle.exif_scrub.proofs.heif.laws.the_picture_stays.Goals as goal

pub returns-clause-length : goal.returns-clause-length
returns-clause-length c = λ file new left e. (kept file new left e).long

pub returns-clause-bytes : goal.returns-clause-bytes
returns-clause-bytes c = λ file new left e. (kept file new left e).picture
