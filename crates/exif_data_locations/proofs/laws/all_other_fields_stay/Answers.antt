use Rattle.exif_data_locations.proofs.Alike.{alike}
use Rattle.exif_data_locations.proofs.laws.all_other_fields_stay.Goals as goal

pub returns : goal.returns
returns c = alike
