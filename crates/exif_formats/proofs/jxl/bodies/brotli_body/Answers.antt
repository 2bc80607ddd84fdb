use Rattle.std.proofs.Common.{arith, refl, rules}
use Rattle.exif_formats.proofs.ReadSteps.{brotli_read, brotli_refused}
use Rattle.exif_formats.proofs.jxl.bodies.brotli_body.Goals as goal

pub returns-then-eq-clause-refused : goal.returns-then-eq-clause-refused
returns-then-eq-clause-refused g c =
    brotli_refused (g.R.Source.left c.args.source.now) (g.R.Source.left c.fill.new.source) (g.R.Source.left c.skip.new.source)
    c.fill.new.buf c.args.len (search rules) c.if-len-lt4.false c.in_ok-fill.ensures.taken c.in_ok-skip.ensures.taken c.if-eq.ensures

pub returns-then-eq-clause-named : goal.returns-then-eq-clause-named
returns-then-eq-clause-named g c = (3, omega arith, refl)

pub returns-clause-skipped : goal.returns-clause-skipped
returns-clause-skipped g c =
    brotli_read (g.R.Source.left c.args.source.now) (g.R.Source.left c.fill.new.source) (g.R.Source.left c.skip.new.source)
    c.fill.new.buf c.args.len _ (search rules) c.if-len-lt4.false c.in_ok-fill.ensures.taken c.in_ok-skip.ensures.taken c.if-eq.ensures
