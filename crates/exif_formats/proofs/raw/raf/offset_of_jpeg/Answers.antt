use Rattle.std.proofs.Common.{◌∙◌, rules, arith, refl}
use Rattle.exif_formats.proofs.RafSteps.{raf_other, raf_early, raf_header}
use Rattle.exif_formats.proofs.raw.raf.offset_of_jpeg.Goals as goal

pub returns-then-not-is_raf-clause-refused : goal.returns-then-not-is_raf-clause-refused
returns-then-not-is_raf-clause-refused g c =
    raf_other (g.R.Source.left c.args.source.now) (g.R.Source.left c.fill.new.source) c.fill.new.buf (search rules) (search rules) c.in_ok-fill.ensures.taken

pub returns-then-not-is_raf-clause-named : goal.returns-then-not-is_raf-clause-named
returns-then-not-is_raf-clause-named g c = (1, omega arith, refl)

pub returns-then-offset-lt92-clause-refused : goal.returns-then-offset-lt92-clause-refused
returns-then-offset-lt92-clause-refused g c =
    raf_early (g.R.Source.left c.args.source.now) (g.R.Source.left c.fill.new.source) c.fill.new.buf c.loadu32-offset.result (search rules) (search rules) c.loadu32-offset.ensures
    c.if-offset-lt92.true c.in_ok-fill.ensures.taken

pub returns-then-offset-lt92-clause-named : goal.returns-then-offset-lt92-clause-named
returns-then-offset-lt92-clause-named g c = (2, omega arith, refl)

pub returns-clause-offset : goal.returns-clause-offset
returns-clause-offset g c =
    raf_header (g.R.Source.left c.args.source.now) (g.R.Source.left c.fill.new.source) c.fill.new.buf c.from.result (search rules) (search rules)
    (c.from.ensures ∙ c.loadu32-offset.ensures) c.in_ok-fill.ensures.taken
