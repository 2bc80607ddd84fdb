use Rattle.std.proofs.Common.{arith, refl}
use Rattle.std.proofs.lemmas.Result.{err_from_is_err_and}
use Rattle.exif_segments.proofs.WebpChunks.{chunk_over, chunk_exif, chunk_other, exif_short, other_short, exif_collects}
use Rattle.exif_segments.proofs.webp.body.Goals as goal

pub returns-then-size-space-clause-named : goal.returns-then-size-space-clause-named
returns-then-size-space-clause-named g c = (3, omega arith, refl)

pub returns-then-size-space-clause-refused : goal.returns-then-size-space-clause-refused
returns-then-size-space-clause-refused g c = chunk_over (g.R.Source.left c.args.source.now) c.args.name c.args.size
    c.args.space c.if-size-space.true

pub returns-in_err-payload-clause-refused : goal.returns-in_err-payload-clause-refused
returns-in_err-payload-clause-refused g c =
    let p = err_from_is_err_and c.from_residual.result c.from_residual.ensures.1 in
    rw (p.1, p.2) (exif_short c.in_err-payload.field-0.0 (g.R.Source.left c.args.source.now) c.args.name c.args.size
    c.args.space (omega arith) c.if-eq.ensures c.in_err-payload.ensures.short)

pub returns-in_err-payload-clause-memory : goal.returns-in_err-payload-clause-memory
returns-in_err-payload-clause-memory g c =
    let p = err_from_is_err_and c.from_residual.result c.from_residual.ensures.1 in
    rw (p.1, p.2) (λ _. exif_collects (g.R.Source.left c.args.source.now) c.args.name c.args.size c.args.space
    (omega arith) c.if-eq.ensures)

pub returns-then-eq-clause-chunk : goal.returns-then-eq-clause-chunk
returns-then-eq-clause-chunk g c =
    chunk_exif (g.R.Source.left c.args.source.now) (g.R.Source.left c.collect.new.source) c.args.name
    c.in_ok-payload.payload.items c.args.size c.args.space
    (omega arith) c.if-eq.ensures c.in_ok-payload.ensures.len c.in_ok-payload.ensures.taken

pub returns-in_err-skip-clause-refused : goal.returns-in_err-skip-clause-refused
returns-in_err-skip-clause-refused g c =
    let p = err_from_is_err_and c.from_residual-in_err-skip.result c.from_residual-in_err-skip.ensures.1 in
    rw (p.1, p.2)
    (other_short c.in_err-skip.field-0.0 (g.R.Source.left c.args.source.now) c.args.name c.args.size c.args.space
    c.padded_len-taken.result (omega arith) c.if-eq.ensures c.padded_len-taken.ensures.value
    c.in_err-skip.ensures.short)

pub returns-clause-chunk : goal.returns-clause-chunk
returns-clause-chunk g c =
    chunk_other (g.R.Source.left c.args.source.now) (g.R.Source.left c.skip.new.source) c.args.name c.args.size
    c.args.space c.padded_len-taken.result
    (omega arith) c.if-eq.ensures c.padded_len-taken.ensures.value c.in_ok-skip.ensures.taken
