use Rattle.std.proofs.Common.{◌-◌, ap, rules, arith, refl}
use Rattle.std.proofs.lemmas.Result.{err_from_is_err_and}
use Rattle.exif_formats.proofs.Naming.{named_short}
use Rattle.exif_formats.proofs.Cr3Brand.{cr3_brand, cr3_cut, cr3_other, cr3_skipped, cr3_small, cr3_to_end}
use Rattle.exif_formats.proofs.raw.cr3.walk.skip_brand.Goals as goal

pub returns-then-not-is_cr3-clause-refused : goal.returns-then-not-is_cr3-clause-refused
returns-then-not-is_cr3-clause-refused g c =
    cr3_other (g.R.Source.left c.args.source.now) (g.R.Source.left c.fill.new.source) c.fill.new.buf (search rules) (search rules) c.in_ok-fill.ensures.taken

pub returns-then-not-is_cr3-clause-named : goal.returns-then-not-is_cr3-clause-named
returns-then-not-is_cr3-clause-named g c = (1, omega arith, refl)

pub returns-then-size-eq0-clause-skipped : goal.returns-then-size-eq0-clause-skipped
returns-then-size-eq0-clause-skipped g c =
    cr3_to_end (g.R.Source.left c.args.source.now) (g.R.Source.left c.fill.new.source) c.loadu32-size.result c.if-size-eq0.true
    (cr3_brand (g.R.Source.left c.args.source.now) (g.R.Source.left c.fill.new.source) c.fill.new.buf c.loadu32-size.result (search rules) (search rules) c.loadu32-size.ensures c.in_ok-fill.ensures.taken)

pub returns-then-size-lt12-clause-refused : goal.returns-then-size-lt12-clause-refused
returns-then-size-lt12-clause-refused g c =
    cr3_small (g.R.Source.left c.args.source.now) (g.R.Source.left c.fill.new.source) c.loadu32-size.result (omega arith) c.if-size-lt12.true
    (cr3_brand (g.R.Source.left c.args.source.now) (g.R.Source.left c.fill.new.source) c.fill.new.buf c.loadu32-size.result (search rules) (search rules) c.loadu32-size.ensures c.in_ok-fill.ensures.taken)

pub returns-in_err-skip-clause-refused : goal.returns-in_err-skip-clause-refused
returns-in_err-skip-clause-refused g c =
    let p = err_from_is_err_and c.from_residual-in_err-skip.result c.from_residual-in_err-skip.ensures.1 in
    rw (p.1, p.2)
    (cr3_cut c.in_err-skip.field-0.0 (g.R.Source.left c.args.source.now) (g.R.Source.left c.fill.new.source) c.loadu32-size.result (c.from.result - 12) c.if-size-lt12.false
    (ap (λ n. n - 12) c.from.ensures)
    (cr3_brand (g.R.Source.left c.args.source.now) (g.R.Source.left c.fill.new.source) c.fill.new.buf c.loadu32-size.result (search rules) (search rules) c.loadu32-size.ensures c.in_ok-fill.ensures.taken)
    c.in_err-skip.ensures.short)

pub returns-in_err-skip-clause-named : goal.returns-in_err-skip-clause-named
returns-in_err-skip-clause-named g c =
    let p = err_from_is_err_and c.from_residual-in_err-skip.result c.from_residual-in_err-skip.ensures.1 in
    rw (p.1, p.2) (named_short c.in_err-skip.field-0.0 (g.R.Source.left c.fill.new.source) _ c.in_err-skip.ensures.short)

pub returns-clause-skipped : goal.returns-clause-skipped
returns-clause-skipped g c =
    cr3_skipped (g.R.Source.left c.args.source.now) (g.R.Source.left c.fill.new.source) (g.R.Source.left c.skip.new.source) c.loadu32-size.result (c.from.result - 12) c.if-size-lt12.false
    (ap (λ n. n - 12) c.from.ensures)
    (cr3_brand (g.R.Source.left c.args.source.now) (g.R.Source.left c.fill.new.source) c.fill.new.buf c.loadu32-size.result (search rules) (search rules) c.loadu32-size.ensures c.in_ok-fill.ensures.taken)
    c.in_ok-skip.ensures.taken
