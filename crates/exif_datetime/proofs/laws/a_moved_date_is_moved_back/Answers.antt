use Rattle.exif_datetime.proofs.Inverse.{moved_back}
use Rattle.exif_datetime.proofs.laws.a_moved_date_is_moved_back.Goals as goal

pub returns : goal.returns
returns c = moved_back
