use Rattle.exif_layout.proofs.Images.Scrubbed.{scrubs_to_kept, scrubs_once, scrubs}
use Rattle.exif_layout.proofs.laws.scrubbing.scrubbing_twice_is_once.Goals as goal

pub returns-clause-kept : goal.returns-clause-kept
returns-clause-kept c = scrubs_to_kept

pub returns-clause-once : goal.returns-clause-once
returns-clause-once c = scrubs_once

pub returns-clause-images : goal.returns-clause-images
returns-clause-images c = scrubs
