use Rattle.std.proofs.Common.{◌≡◌, ◌≤◌}
use Rattle.exif_segments.specs.Within.{Moves}
use Rattle.exif_segments.specs.Jpeg.{after_marks}
use Rattle.exif_segments.proofs.jpeg.limited.code_after_marks.Given as goal

abbrev pub invariant-loop-code : goal.invariant-loop-code
invariant-loop-code g l = record {
  spent : l.budget ≤ l.initial.budget;
  passed : Moves (g.R.Source.left l.initial.source) l.initial.budget (g.R.Source.left l.source) l.budget (λ xs ys. after_marks xs ≡ after_marks ys);
  count : g.R.Source.failures l.source ≡ g.R.Source.failures l.initial.source;
  same : g.R.Source.through l.source ≡ g.R.Source.through l.initial.source;
}

abbrev pub decreases-loop-code : goal.decreases-loop-code
decreases-loop-code g l = l.budget
