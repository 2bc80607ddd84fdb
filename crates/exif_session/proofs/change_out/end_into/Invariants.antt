use Rattle.std.proofs.Common.{◌≡◌, length}
use Rattle.exif_session.proofs.change_out.end_into.Given as goal

abbrev pub invariant-loop-rest : goal.invariant-loop-rest
invariant-loop-rest g l = l.session.pending ≡ l.initial.session.pending

abbrev pub decreases-loop-rest : goal.decreases-loop-rest
decreases-loop-rest g l = length l.rest
