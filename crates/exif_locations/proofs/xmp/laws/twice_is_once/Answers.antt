use Rattle.std.proofs.Common.{length, arith, false}
use Rattle.exif_locations.proofs.XmpLawSteps.{holds}
use Rattle.exif_locations.proofs.xmp.laws.twice_is_once.Goals as goal

pub returns : goal.returns
returns c packet out e = (holds (length packet) false 0 packet out (omega arith) e).again
