use Rattle.std.proofs.Common.{arith}
use Rattle.std.proofs.lemmas.Grind.{common_steps}
use Rattle.exif_text.proofs.PlainLemmas.{zero_padded}
use Rattle.exif_geotag.proofs.spot_fields.day_text.Goals as goal

pub returns : goal.returns
returns c = grind (arith, common_steps, zero_padded)
