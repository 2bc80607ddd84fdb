use Rattle.std.proofs.Common.{◌≡◌}
use Rattle.exif_rename_commands.proofs.planned.report_there.Given as goal

-- what waits and what was counted stay
abbrev pub invariant-loop-sidecar : goal.invariant-loop-sidecar
invariant-loop-sidecar g l = l.session.pending ≡ l.initial.session.pending
