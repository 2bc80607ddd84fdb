use Rattle.std.proofs.Common.{◌≡◌, []}
use Rattle.exif_rename_commands.proofs.moves.write_moves.Given as goal

-- what waits and what was counted stay, and without moves all else, too
abbrev pub invariant-loop-wanted : goal.invariant-loop-wanted
invariant-loop-wanted g l = record {
  pending : l.session.pending ≡ l.initial.session.pending;
  none : l.moves ≡ [] → l.session ≡ l.initial.session;
}
