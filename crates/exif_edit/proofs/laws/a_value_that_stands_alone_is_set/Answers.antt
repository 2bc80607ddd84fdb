use Rattle.exif_edit.proofs.Unshared.{set_unshared}
use Rattle.exif_edit.proofs.laws.a_value_that_stands_alone_is_set.Goals as goal

pub returns : goal.returns
returns c = set_unshared
