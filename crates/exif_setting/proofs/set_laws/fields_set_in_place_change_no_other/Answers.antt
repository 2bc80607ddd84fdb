use Rattle.exif_setting.proofs.SetInPlace.{set_in_place}
use Rattle.exif_setting.proofs.set_laws.fields_set_in_place_change_no_other.Goals as goal

pub returns : goal.returns
returns c = set_in_place
