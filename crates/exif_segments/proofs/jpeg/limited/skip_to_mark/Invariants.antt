use Rattle.std.proofs.Common.{◌≡◌, ◌≤◌}
use Rattle.exif_segments.specs.Within.{Moves}
use Rattle.exif_segments.specs.Jpeg.{from_mark}
use Rattle.exif_segments.proofs.jpeg.limited.skip_to_mark.Given as goal

abbrev pub invariant-loop-byte : goal.invariant-loop-byte
invariant-loop-byte g l = record {
  spent : l.budget ≤ l.initial.budget;
  passed : Moves (g.R.Source.left l.initial.source) l.initial.budget (g.R.Source.left l.source) l.budget (λ xs ys. from_mark xs ≡ from_mark ys);
  count : g.R.Source.failures l.source ≡ g.R.Source.failures l.initial.source;
  same : g.R.Source.through l.source ≡ g.R.Source.through l.initial.source;
}

abbrev pub decreases-loop-byte : goal.decreases-loop-byte
decreases-loop-byte g l = l.budget
