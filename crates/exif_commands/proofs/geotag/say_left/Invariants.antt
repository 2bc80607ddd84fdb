use Rattle.std.proofs.Common.{◌≡◌}
use Rattle.exif_commands.proofs.geotag.say_left.Given as goal

-- what waits and what was counted stay
abbrev pub invariant-loop-left : goal.invariant-loop-left
invariant-loop-left g l = l.session.pending ≡ l.initial.session.pending
