use Rattle.exif_rename.proofs.Chosen.{chosen_is_new}
use Rattle.exif_rename.proofs.laws.an_unused_path_was_not_given.Goals as goal

pub returns : goal.returns
returns c = chosen_is_new
