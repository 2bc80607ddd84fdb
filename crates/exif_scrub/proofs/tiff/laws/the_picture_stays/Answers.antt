use Rattle.exif_scrub.proofs.TiffTwice.{picture_same}
use Rattle.exif_scrub.proofs.tiff.laws.the_picture_stays.Goals as goal

pub returns : goal.returns
returns c = picture_same
