use Rattle.std.proofs.Common.{◌≡◌}
use Rattle.exif_session.proofs.session.Session.name_temporary.Given as goal

abbrev pub invariant-loop : goal.invariant-loop
invariant-loop g l = record {
  waiting : l.self.pending.waiting ≡ l.initial.self.pending.waiting;
  counts : l.self.pending.counts ≡ l.initial.self.pending.counts;
}
