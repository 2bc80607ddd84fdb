use Rattle.exif_formats.proofs.PictureLaws.{containers_same}
use Rattle.exif_formats.proofs.laws.containers_are_read_so.Goals as goal

pub returns : goal.returns
returns c = record { same = containers_same }
