use Rattle.std.proofs.Common.{length, arith, false}
use Rattle.exif_locations.proofs.XmpLawSteps.{holds}
use Rattle.exif_locations.proofs.xmp.laws.other_bytes_stay.Goals as goal

pub returns : goal.returns
returns c packet out e = let h = holds (length packet) false 0 packet out (omega arith) e in (h.len, h.bytes)
