use Rattle.std.proofs.Common.{arith}
use Rattle.std.proofs.lemmas.Grind.{common_steps}
use Rattle.exif_json.proofs.flat.write_as_latin1.Goals as goal

pub returns : goal.returns
returns c = grind (arith, common_steps)
