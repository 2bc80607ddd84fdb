use Rattle.exif_grow.proofs.OldKept.{keeps_old}
use Rattle.exif_grow.proofs.laws.grown_data_begin_with_the_old_ones.Goals as goal

pub returns : goal.returns
returns c = keeps_old
