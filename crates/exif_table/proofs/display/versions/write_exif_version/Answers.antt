use Rattle.std.proofs.lemmas.Grind.{common_steps}
use Rattle.std.proofs.Common.{arith}
use Rattle.exif_table.proofs.display.versions.write_exif_version.Goals as goal

pub returns-else-minor-eq0 : goal.returns-else-minor-eq0
returns-else-minor-eq0 g c = grind (arith, common_steps)
