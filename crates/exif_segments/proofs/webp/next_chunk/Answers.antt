use Rattle.std.proofs.Common.{arith, refl}
use Rattle.exif_segments.proofs.webp.next_chunk.Goals as goal

pub returns-then-space-lt8-clause-named : goal.returns-then-space-lt8-clause-named
returns-then-space-lt8-clause-named g c = (3, omega arith, refl)
