use Rattle.std.proofs.Common.{length, arith}
use Rattle.exif_locations.proofs.IptcLawSteps.{holds}
use Rattle.exif_locations.proofs.iptc.laws.twice_is_once.Goals as goal

pub returns : goal.returns
returns c input out e = let h = holds (length input) input out (omega arith) e in h.again
