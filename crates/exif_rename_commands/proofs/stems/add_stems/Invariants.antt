use Rattle.std.proofs.Common.{◌≡◌}
use Rattle.exif_rename_commands.proofs.stems.add_stems.Given as goal

abbrev pub invariant-loop-places : goal.invariant-loop-places
invariant-loop-places g l = record {
  waiting : l.session.pending.waiting ≡ l.initial.session.pending.waiting;
  beside : l.session.pending.counts.beside ≡ l.initial.session.pending.counts.beside;
}
