use Rattle.std.proofs.Common.{◌≡◌, ◌-◌, length, ap, ◌∙◌, rules, arith, refl}
use Rattle.std.proofs.lemmas.Result.{err_from_is_err_and}
use Rattle.exif_segments.specs.Answer.{IsCollected}
use Rattle.exif_segments.specs.Jpeg.{broken_jpeg}
use Rattle.exif_segments.specs.declared.jpeg.TheConstants.{LIMIT}
use Rattle.exif_segments.proofs.JpegMoves.{jpeg_short, jpeg_other, jpeg_located, jpeg_holds}
use Rattle.exif_segments.proofs.jpeg.locate.Goals as goal

pub returns-in_err-fill_within-clause-refused : goal.returns-in_err-fill_within-clause-refused
returns-in_err-fill_within-clause-refused g c =
    let p = err_from_is_err_and c.from_residual.result c.from_residual.ensures.1 in
    rw (p.1, p.2) (jpeg_short _ (g.R.Source.left c.args.source.now) LIMIT c.in_err-fill_within.ensures.short)

pub returns-then-ne-clause-refused : goal.returns-then-ne-clause-refused
returns-then-ne-clause-refused g c =
    jpeg_other (g.R.Source.left c.args.source.now) (g.R.Source.left c.fill_within.new.source) LIMIT c.fill_within.new.budget c.fill_within.new.buf (search rules) c.if-ne.ensures c.in_ok-fill_within.ensures.taken

pub returns-in-Some-clause-found : goal.returns-in-Some-clause-found
returns-in-Some-clause-found g c =
    let len : c.len.result ≡ length c.in-Some.payload.items = search rules in
    let offset : c.saturating_sub-offset.result ≡ LIMIT - c.next_unit.new.budget - length c.in-Some.payload.items =
    c.saturating_sub-offset.ensures ∙ ap (λ t. LIMIT - c.next_unit.new.budget - t) len in
    let most = c.loop-payload.invariant.most in
    let spent = c.in_ok-payload.ensures.spent in
    rw offset (jpeg_located c.in-Some.payload.items (g.R.Source.left c.args.source.now) (g.R.Source.left c.loop-payload.source) (g.R.Source.left c.next_unit.new.source) LIMIT c.loop-payload.budget c.next_unit.new.budget
    (omega arith) c.loop-payload.invariant.passed (rw c.in-Some.is at c.in_ok-payload.ensures.taken))

pub returns-then-ne-clause-named : goal.returns-then-ne-clause-named
returns-then-ne-clause-named g c = (1, omega arith, refl)

pub returns-in_err-payload-clause-memory : goal.returns-in_err-payload-clause-memory
returns-in_err-payload-clause-memory g c =
    let p = err_from_is_err_and c.from_residual-in_err-payload.result c.from_residual-in_err-payload.ensures.1 in
    rw (p.1, p.2) (λ h. jpeg_holds (IsCollected broken_jpeg) (g.R.Source.left c.args.source.now) (g.R.Source.left c.loop-payload.source) LIMIT c.loop-payload.budget c.loop-payload.invariant.passed (c.in_err-payload.ensures.memory h))
