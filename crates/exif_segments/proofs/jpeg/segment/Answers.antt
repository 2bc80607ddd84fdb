use Rattle.std.proofs.lemmas.Result.{err_from_is_err_and}
use Rattle.exif_segments.proofs.JpegMoves.{segment_collects, segment_exif, segment_other}
use Rattle.exif_segments.proofs.jpeg.segment.Goals as goal

pub returns-then-code-eq-APP1-clause-taken : goal.returns-then-code-eq-APP1-clause-taken
returns-then-code-eq-APP1-clause-taken g c =
    segment_exif (λ v. v.items) _ _ _ _ _ _ c.args.code c.from-size.result _ c.requires c.if-code-eq-APP1.true c.if-size-lt2.false (rw c.from-size.ensures c.in_ok-next16.ensures.taken) c.in_ok-payload.ensures.taken

pub returns-clause-taken : goal.returns-clause-taken
returns-clause-taken g c =
    segment_other _ _ _ _ _ _ c.args.code c.from-size.result c.requires c.if-code-eq-APP1.false c.if-size-lt2.false (rw c.from-size.ensures c.in_ok-next16.ensures.taken) c.in_ok-skip_within.ensures.taken

pub returns-in_err-payload-clause-memory : goal.returns-in_err-payload-clause-memory
returns-in_err-payload-clause-memory g c =
    let p = err_from_is_err_and c.from_residual-in_err-payload.result c.from_residual-in_err-payload.ensures.1 in
    rw (p.1, p.2) (λ h. segment_collects (g.R.Source.left c.args.source.now) _ c.args.budget.now _ c.args.code c.from-size.result c.if-code-eq-APP1.true (rw c.from-size.ensures c.in_ok-next16.ensures.taken) (c.in_err-payload.ensures.memory h))
