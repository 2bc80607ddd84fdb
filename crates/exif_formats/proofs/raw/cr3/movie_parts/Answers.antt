use Rattle.std.proofs.Common.{arith, refl}
use Rattle.exif_formats.proofs.raw.cr3.movie_parts.Goals as goal

pub returns-in_default-clause-named : goal.returns-in_default-clause-named
returns-in_default-clause-named c = (2, omega arith, refl)
