use Rattle.std.proofs.Common.{◌≡◌}
use Rattle.exif_catalog_commands.proofs.catalog.report_moves.Given as goal

-- a message leaves the files that wait, and what was counted
abbrev pub invariant-loop-moved : goal.invariant-loop-moved
invariant-loop-moved g l = l.session.pending ≡ l.initial.session.pending
