use Rattle.exif_xmp_set.proofs.Settings.{length_kept}
use Rattle.exif_xmp_set.proofs.laws.length_stays.Goals as goal

pub returns : goal.returns
returns c packet namespace path text new old found padding e r f h = length_kept packet namespace path text new old found padding e r f h
