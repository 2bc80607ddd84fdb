use Rattle.std.proofs.Common.{arith, refl, rules}
use Rattle.exif_formats.proofs.ReadSteps.{brotli_over}
use Rattle.exif_formats.proofs.jxl.bodies.last_brotli.Goals as goal

pub returns-then-eq-clause-named : goal.returns-then-eq-clause-named
returns-then-eq-clause-named g c = (3, omega arith, refl)

pub returns-clause-skipped : goal.returns-clause-skipped
returns-clause-skipped g c =
    brotli_over (g.R.Source.left c.args.source.now) (g.R.Source.left c.fill.new.source) c.fill.new.buf (search rules)
    c.in_ok-fill.ensures.taken c.if-eq.ensures
