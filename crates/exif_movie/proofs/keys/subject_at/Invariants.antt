use Rattle.std.proofs.Common.{◌≡◌}
use Rattle.exif_movie.specs.Keys.{subject_at}
use Rattle.exif_movie.proofs.keys.subject_at.Given as goal

-- those that are left decide
abbrev pub invariant-loop-size : goal.invariant-loop-size
invariant-loop-size l = subject_at l.left l.rest ≡ subject_at l.n l.keys

abbrev pub decreases-loop-size : goal.decreases-loop-size
decreases-loop-size l = l.left
