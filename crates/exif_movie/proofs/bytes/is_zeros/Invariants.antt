use Rattle.std.proofs.Common.{◌≡◌, drop}
use Rattle.exif_movie.specs.Bytes.{is_zeros}
use Rattle.exif_movie.proofs.bytes.is_zeros.Given as goal

-- those that are left decide
abbrev pub invariant-loop-b : goal.invariant-loop-b
invariant-loop-b l = is_zeros (drop l.b-index l.bytes) ≡ is_zeros l.bytes
