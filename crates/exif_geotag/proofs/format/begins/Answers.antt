use Rattle.std.proofs.Common.{◌∙◌}
use Rattle.exif_geotag.proofs.FormatSteps.{begins_is}
use Rattle.exif_geotag.proofs.format.begins.Goals as goal

pub returns : goal.returns
returns c = c.starts_with.ensures.value ∙ begins_is c.args.word.now c.args.bytes.now
