use Rattle.std.proofs.Common.{◌≡◌, ◌≤◌, ◌-◌}
use Rattle.exif_base.specs.Told.{IsFetchedOnto}
use Rattle.exif_base.proofs.read.read_by_blocks.Given as goal

abbrev pub invariant-loop-missing : goal.invariant-loop-missing
invariant-loop-missing g l = record {
  in_range : l.missing ≤ l.most;
  taken : IsFetchedOnto (g.R.Source.left l.initial.source) (g.R.Source.left l.source) l.fn.list.items l.list.items (l.most - l.missing);
  count : g.R.Source.failures l.source ≡ g.R.Source.failures l.initial.source;
  stream : g.R.Source.stream l.source ≡ g.R.Source.stream l.initial.source;
  same : g.R.Source.through l.source ≡ g.R.Source.through l.initial.source;
}

abbrev pub decreases-loop-missing : goal.decreases-loop-missing
decreases-loop-missing g l = l.missing
