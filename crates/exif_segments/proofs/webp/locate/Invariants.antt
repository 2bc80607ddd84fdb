use Rattle.std.proofs.Common.{◌≡◌, ◌+◌, ◌≤◌, length}
use Rattle.exif_base.specs.Told.{WhereTold}
use Rattle.exif_segments.specs.Webp.{webp_answer, body_answer}
use Rattle.exif_segments.proofs.webp.locate.Given as goal

abbrev pub invariant-loop-space : goal.invariant-loop-space
invariant-loop-space g l = record {
  passed : WhereTold (g.R.Source.left l.fn.source) (g.R.Source.left l.source) (λ xs ys. webp_answer xs ≡ body_answer l.space ys);
  counted : WhereTold (g.R.Source.left l.fn.source) (g.R.Source.left l.source) (λ xs ys. length xs + l.space ≡ 12 + l.body + length ys);
  fewer : l.space ≤ l.body;
  count : g.R.Source.failures l.source ≡ g.R.Source.failures l.fn.source;
  same : g.R.Source.through l.source ≡ g.R.Source.through l.fn.source;
}

abbrev pub decreases-loop-space : goal.decreases-loop-space
decreases-loop-space g l = l.space
