use Rattle.std.proofs.Common.{◌≡◌}
use Rattle.exif_session.proofs.in_place.say_elsewhere.Given as goal

-- what waits, and what was counted, stay
abbrev pub invariant-loop-it : goal.invariant-loop-it
invariant-loop-it g l = l.session.pending ≡ l.initial.session.pending
