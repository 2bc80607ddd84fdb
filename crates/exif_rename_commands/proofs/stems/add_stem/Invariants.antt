use Rattle.std.proofs.Common.{◌≡◌}
use Rattle.exif_rename_commands.proofs.stems.add_stem.Given as goal

-- no name was found so far
abbrev pub invariant-loop-member : goal.invariant-loop-member
invariant-loop-member g l = record {
  waiting : l.session.pending.waiting ≡ l.initial.session.pending.waiting;
  beside : l.session.pending.counts.beside ≡ l.initial.session.pending.counts.beside;
  stems : l.stems ≡ l.initial.stems;
}
