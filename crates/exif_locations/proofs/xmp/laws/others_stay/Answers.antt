use Rattle.std.proofs.Common.{length, arith}
use Rattle.exif_locations.specs.XmpErasing.{at_start}
use Rattle.exif_locations.proofs.XmpLawSteps.{others}
use Rattle.exif_locations.proofs.xmp.laws.others_stay.Goals as goal

pub returns : goal.returns
returns c packet e = others (length packet) at_start packet (omega arith) e
