use Rattle.std.proofs.Common.{◌≡◌, drop}
use Rattle.exif_movie.specs.Files.{has_movie}
use Rattle.exif_movie.proofs.file.has_movie.Given as goal

-- those that are left decide
abbrev pub invariant-loop-part : goal.invariant-loop-part
invariant-loop-part l = has_movie (drop l.part-index l.parts) ≡ has_movie l.parts
