use Rattle.std.proofs.Common.{◌≡◌, ◌≤◌, ◌+◌, ◌-◌, [], Some}
use Rattle.std.specs.Io.KnownBytes.{Keeps}
use Rattle.exif_base.specs.Told.{IsFetchedOnto, left_behind}
use Rattle.exif_containers.proofs.isobmff.at.read_at.Given as goal

abbrev pub invariant-loop-missing : goal.invariant-loop-missing
invariant-loop-missing g l = record {
  in_range : l.missing ≤ l.len;
  taken : IsFetchedOnto (left_behind (Some l.offset) (g.R.Source.stream l.initial.source)) (left_behind (Some (l.offset + (l.len - l.missing))) (g.R.Source.stream l.initial.source)) [] l.bytes.items (l.len - l.missing);
  kept : Keeps (g.R.Source.left l.initial.source) (g.R.Source.left l.source);
  count : g.R.Source.failures l.source ≡ g.R.Source.failures l.initial.source;
  stream : g.R.Source.stream l.source ≡ g.R.Source.stream l.initial.source;
  same : g.R.Source.through l.source ≡ g.R.Source.through l.initial.source;
}

abbrev pub decreases-loop-missing : goal.decreases-loop-missing
decreases-loop-missing g l = l.missing
