use Rattle.std.proofs.Common.{◌≡◌, ◌≤◌, ◌+◌, ◌-◌, Some, length, take}
use Rattle.std.specs.Io.KnownBytes.{Consumes, Keeps}
use Rattle.exif_base.specs.Told.{left_behind}
use Rattle.exif_containers.proofs.isobmff.at.read_front_at.Given as goal

abbrev pub invariant-loop-at : goal.invariant-loop-at
invariant-loop-at g l = record {
  in_range : l.at ≤ length l.buf;
  taken : Consumes (left_behind (Some l.offset) (g.R.Source.stream l.initial.source)) (left_behind (Some (l.offset + l.at)) (g.R.Source.stream l.initial.source)) (take l.at l.buf);
  kept : Keeps (g.R.Source.left l.initial.source) (g.R.Source.left l.source);
  count : g.R.Source.failures l.source ≡ g.R.Source.failures l.initial.source;
  stream : g.R.Source.stream l.source ≡ g.R.Source.stream l.initial.source;
  same : g.R.Source.through l.source ≡ g.R.Source.through l.initial.source;
}

abbrev pub decreases-loop-at : goal.decreases-loop-at
decreases-loop-at g l = length l.initial.buf - l.at
