use Rattle.std.proofs.Common.{◌≡◌, []}
use Rattle.exif_rename_commands.specs.Counting.{beside_as}
use Rattle.exif_rename_commands.specs.Moving.{IsSettled}
use Rattle.exif_rename_commands.proofs.moves.Folders.settle.Given as goal

abbrev pub invariant-loop-name : goal.invariant-loop-name
invariant-loop-name g l = record {
  none : l.fn.self.names.items ≡ [] → l.session ≡ l.initial.session;
  rest : l.session.pending ≡ beside_as l.session.pending.counts.beside l.initial.session.pending;
  waiting : l.session.pending.waiting ≡ l.initial.session.pending.waiting;
  beside : IsSettled l.initial.session.pending.counts.beside l.session.pending.counts.beside;
}
