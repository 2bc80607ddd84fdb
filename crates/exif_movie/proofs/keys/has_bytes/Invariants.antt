use Rattle.std.proofs.Common.{◌≡◌, length}
use Rattle.exif_movie.specs.Keys.{has_bytes}
use Rattle.exif_movie.proofs.keys.has_bytes.Given as goal

-- those that are left decide
abbrev pub invariant-loop-rest : goal.invariant-loop-rest
invariant-loop-rest l = has_bytes l.word l.rest ≡ has_bytes l.word l.bytes

abbrev pub decreases-loop-rest : goal.decreases-loop-rest
decreases-loop-rest l = length l.rest
