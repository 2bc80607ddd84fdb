use Rattle.exif_scrub.proofs.TiffTwice.{described_alone, stays_alone}
use Rattle.exif_scrub.proofs.tiff.laws.only_the_picture_is_left.Goals as goal

pub returns-clause-tags : goal.returns-clause-tags
returns-clause-tags c = described_alone

pub returns-clause-zeros : goal.returns-clause-zeros
returns-clause-zeros c = stays_alone
