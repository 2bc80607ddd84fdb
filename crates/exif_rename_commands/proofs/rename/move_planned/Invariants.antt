use Rattle.std.proofs.Common.{◌≡◌}
use Rattle.std.specs.Prelude.{IsTrue}
use Rattle.exif_rename_commands.proofs.rename.move_planned.Given as goal

-- what waits stays, and what was counted beside the files; a dry run leaves no folder
abbrev pub invariant-loop-path : goal.invariant-loop-path
invariant-loop-path g l = record {
  waiting : l.session.pending.waiting ≡ l.initial.session.pending.waiting;
  beside : l.session.pending.counts.beside ≡ l.initial.session.pending.counts.beside;
  dry : IsTrue l.moving.dry_run → l.moved ≡ l.initial.moved;
}
