use Rattle.std.proofs.Common.{◌≡◌}
use Rattle.exif_commands.proofs.show.say_faults.Given as goal

-- what waits, and what was counted, stay
abbrev pub invariant-loop-fault : goal.invariant-loop-fault
invariant-loop-fault g l = l.session.pending ≡ l.initial.session.pending
