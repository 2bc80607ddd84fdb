use Rattle.std.proofs.Common.{◌≡◌}
use Rattle.exif_session.proofs.change_out.say_notes.Given as goal

abbrev pub invariant-loop-note : goal.invariant-loop-note
invariant-loop-note g l = l.session.pending ≡ l.initial.session.pending
