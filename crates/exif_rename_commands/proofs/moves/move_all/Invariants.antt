use Rattle.std.proofs.Common.{◌≡◌}
use Rattle.exif_rename_commands.proofs.moves.move_all.Given as goal

-- what waits and what was counted stay
abbrev pub invariant-loop-wanted : goal.invariant-loop-wanted
invariant-loop-wanted g l = l.session.pending ≡ l.initial.session.pending
