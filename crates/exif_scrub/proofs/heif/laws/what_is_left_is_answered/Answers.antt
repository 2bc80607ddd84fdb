use Rattle.exif_scrub.proofs.Left.{all_known, settled_known}
use Rattle.exif_scrub.proofs.heif.laws.what_is_left_is_answered.Goals as goal

pub returns-clause-scrubbed : goal.returns-clause-scrubbed
returns-clause-scrubbed c = all_known

pub returns-clause-settled : goal.returns-clause-settled
returns-clause-settled c = settled_known
