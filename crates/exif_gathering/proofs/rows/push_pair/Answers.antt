use Rattle.std.proofs.Common.{arith}
use Rattle.std.proofs.lemmas.Grind.{common_steps}
use Rattle.std.proofs.lemmas.Fmt.{hex_byte}
use Rattle.exif_gathering.proofs.rows.push_pair.Goals as goal

pub returns : goal.returns
returns c = grind (arith, common_steps, hex_byte)
