use Rattle.std.proofs.Common.{◌≡◌}
use Rattle.exif_inputs.proofs.pending.Pending.next.Given as goal

abbrev pub invariant-loop : goal.invariant-loop
invariant-loop l = l.self.recursive ≡ l.initial.self.recursive
