use Rattle.std.proofs.Common.{length, arith, false}
use Rattle.exif_locations.specs.XmpPieces.{spaced}
use Rattle.exif_locations.proofs.XmpLawSteps.{holds}
use Rattle.exif_locations.proofs.xmp.laws.no_location_is_left.Goals as goal

pub returns : goal.returns
returns c packet out e = let h = holds (length packet) false 0 packet out (omega arith) e in (spaced 0 h.ps, h.kept, h.free)
