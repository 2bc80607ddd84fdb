use Rattle.std.proofs.Common.{◌≡◌, ◌≤◌}
use Rattle.exif_segments.specs.Within.{Moves}
use Rattle.exif_segments.specs.Jpeg.{answer_from, jpeg_answer}
use Rattle.exif_segments.specs.declared.jpeg.TheConstants.{LIMIT}
use Rattle.exif_segments.proofs.jpeg.locate.Given as goal

abbrev pub invariant-loop-payload : goal.invariant-loop-payload
invariant-loop-payload g l = record {
  passed : Moves (g.R.Source.left l.fn.source) LIMIT (g.R.Source.left l.source) l.budget (λ xs ys. jpeg_answer xs ≡ answer_from ys);
  most : l.budget ≤ LIMIT;
  count : g.R.Source.failures l.source ≡ g.R.Source.failures l.fn.source;
  same : g.R.Source.through l.source ≡ g.R.Source.through l.fn.source;
}

abbrev pub decreases-loop-payload : goal.decreases-loop-payload
decreases-loop-payload g l = l.budget
