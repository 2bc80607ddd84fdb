use Rattle.exif_edit.proofs.LawsSetting.{set_back}
use Rattle.exif_edit.proofs.laws.the_old_value_is_set_back.Goals as goal

pub returns : goal.returns
returns c = set_back
