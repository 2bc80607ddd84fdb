use Rattle.std.proofs.Common.{◌≡◌}
use Rattle.exif_session.proofs.session.Session.clear_beside.Given as goal

abbrev pub invariant-loop-number : goal.invariant-loop-number
invariant-loop-number g l = l.self.pending ≡ l.initial.self.pending
