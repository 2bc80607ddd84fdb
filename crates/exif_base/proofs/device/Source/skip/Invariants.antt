use Rattle.std.proofs.Common.{◌≡◌, ◌≤◌, ◌-◌}
use Rattle.exif_base.specs.Told.{Skips}
use Rattle.exif_base.proofs.device.Source.skip.Given as goal

abbrev pub invariant-loop-rest : goal.invariant-loop-rest
invariant-loop-rest g l = record {
  in_range : l.rest ≤ l.len;
  taken : Skips (g.Self.Source.left l.initial.self) (g.Self.Source.left l.self) (l.len - l.rest);
  count : g.Self.Source.failures l.self ≡ g.Self.Source.failures l.initial.self;
  stream : g.Self.Source.stream l.self ≡ g.Self.Source.stream l.initial.self;
  same : g.Self.Source.through l.self ≡ g.Self.Source.through l.initial.self;
}

abbrev pub decreases-loop-rest : goal.decreases-loop-rest
decreases-loop-rest g l = l.rest
