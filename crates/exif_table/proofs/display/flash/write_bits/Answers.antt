use Rattle.std.proofs.lemmas.Grind.{common_steps}
use Rattle.std.proofs.Common.{arith}
use Rattle.exif_table.specs.Flash.{flash_bits}
use Rattle.exif_table.proofs.display.flash.write_bits.Goals as goal

pub returns : goal.returns
unfolding flash_bits
returns g c = grind (arith, common_steps)
