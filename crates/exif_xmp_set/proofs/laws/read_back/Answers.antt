use Rattle.exif_xmp_set.proofs.Settings.{reads_back}
use Rattle.exif_xmp_set.proofs.laws.read_back.Goals as goal

pub returns : goal.returns
returns c packet namespace path text new e = reads_back packet namespace path text new e
