use Rattle.std.proofs.Common.{◌≡◌, ◌≤◌, ◌-◌, length, take}
use Rattle.std.specs.Io.KnownBytes.{Consumes}
use Rattle.exif_base.proofs.read.read_front.Given as goal

abbrev pub invariant-loop-at : goal.invariant-loop-at
invariant-loop-at g l = record {
  in_range : l.at ≤ length l.buf;
  taken : Consumes (g.R.Source.left l.initial.source) (g.R.Source.left l.source) (take l.at l.buf);
  count : g.R.Source.failures l.source ≡ g.R.Source.failures l.initial.source;
  stream : g.R.Source.stream l.source ≡ g.R.Source.stream l.initial.source;
  same : g.R.Source.through l.source ≡ g.R.Source.through l.initial.source;
}

abbrev pub decreases-loop-at : goal.decreases-loop-at
decreases-loop-at g l = length l.initial.buf - l.at
