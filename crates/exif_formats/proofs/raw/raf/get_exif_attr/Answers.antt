use Rattle.std.proofs.lemmas.Result.{err_from_is_err_and}
use Rattle.exif_types.specs.Refusals.{Fails}
use Rattle.exif_segments.specs.Answer.{IsCollected}
use Rattle.exif_segments.specs.Jpeg.{broken_jpeg}
use Rattle.exif_formats.proofs.Naming.{named_stream}
use Rattle.exif_formats.proofs.RafSteps.{raf_at_stream, raf_cut, raf_found, raf_holds}
use Rattle.exif_formats.proofs.raw.raf.get_exif_attr.Goals as goal

pub returns-in_err-skip-clause-refused : goal.returns-in_err-skip-clause-refused
returns-in_err-skip-clause-refused g c =
    let p = err_from_is_err_and c.from_residual-in_err-skip.result c.from_residual-in_err-skip.ensures.1 in
    rw (p.1, p.2)
    (raf_cut c.in_err-skip.field-0.0 (g.R.Source.left c.args.source.now) (g.R.Source.left c.offset_of_jpeg.new.source) c.in_ok-offset.offset
    c.in_ok-offset.ensures.least c.in_ok-offset.ensures.offset c.in_err-skip.ensures.short)

pub returns-in_err-payload-clause-refused : goal.returns-in_err-payload-clause-refused
returns-in_err-payload-clause-refused g c =
    let p = err_from_is_err_and c.from_residual-in_err-payload.result c.from_residual-in_err-payload.ensures.1 in
    rw (p.1, p.2)
    (raf_holds (Fails c.in_err-payload.field-0.0) (g.R.Source.left c.args.source.now) (g.R.Source.left c.skip.new.source)
    (raf_at_stream (g.R.Source.left c.args.source.now) (g.R.Source.left c.offset_of_jpeg.new.source) (g.R.Source.left c.skip.new.source) c.in_ok-offset.offset
    c.in_ok-offset.ensures.least c.in_ok-offset.ensures.offset c.in_ok-skip.ensures.taken)
    c.in_err-payload.ensures.refused)

pub returns-in_err-payload-clause-named : goal.returns-in_err-payload-clause-named
returns-in_err-payload-clause-named g c =
    let p = err_from_is_err_and c.from_residual-in_err-payload.result c.from_residual-in_err-payload.ensures.1 in
    rw (p.1, p.2) (named_stream c.in_err-payload.field-0.0 c.in_err-payload.ensures.named)

pub returns-in_err-payload-clause-memory : goal.returns-in_err-payload-clause-memory
returns-in_err-payload-clause-memory g c =
    let p = err_from_is_err_and c.from_residual-in_err-payload.result c.from_residual-in_err-payload.ensures.1 in
    rw (p.1, p.2)
    (λ h. raf_holds (IsCollected broken_jpeg) (g.R.Source.left c.args.source.now) (g.R.Source.left c.skip.new.source)
    (raf_at_stream (g.R.Source.left c.args.source.now) (g.R.Source.left c.offset_of_jpeg.new.source) (g.R.Source.left c.skip.new.source) c.in_ok-offset.offset
    c.in_ok-offset.ensures.least c.in_ok-offset.ensures.offset c.in_ok-skip.ensures.taken)
    (c.in_err-payload.ensures.memory h))

pub returns-clause-found : goal.returns-clause-found
returns-clause-found g c =
    raf_found c.in_ok-payload.payload.items (g.R.Source.left c.args.source.now) (g.R.Source.left c.skip.new.source) (g.R.Source.left c.get_exif_attr.new.source)
    (raf_at_stream (g.R.Source.left c.args.source.now) (g.R.Source.left c.offset_of_jpeg.new.source) (g.R.Source.left c.skip.new.source) c.in_ok-offset.offset
    c.in_ok-offset.ensures.least c.in_ok-offset.ensures.offset c.in_ok-skip.ensures.taken)
    c.in_ok-payload.ensures.found
