use Rattle.std.proofs.Common.{take, refl, rules, arith}
use Rattle.std.proofs.lemmas.Result.{err_from_is_err_and}
use Rattle.exif_formats.proofs.JxlHeaders.{header_named, header_none, header_refused, header_says, header_short}
use Rattle.exif_formats.proofs.jxl.boxes.next_header.Goals as goal

pub returns-in_err-n-clause-refused : goal.returns-in_err-n-clause-refused
returns-in_err-n-clause-refused g c =
    let p = err_from_is_err_and c.from_residual.result c.from_residual.ensures.1 in
    rw (p.1, p.2) (header_short c.in_err-n.field-0.0 (g.R.Source.left c.args.source.now) c.in_err-n.ensures.short)

pub returns-then-n-eq0-clause-refused : goal.returns-then-n-eq0-clause-refused
returns-then-n-eq0-clause-refused g c = header_none (g.R.Source.left c.args.source.now) (c.in_ok-n.ensures.end (search rules))

pub returns-then-n-eq0-clause-named : goal.returns-then-n-eq0-clause-named
returns-then-n-eq0-clause-named g c = (4, omega arith, refl)

pub returns-in_err-header-clause-refused : goal.returns-in_err-header-clause-refused
returns-in_err-header-clause-refused g c =
    let p = err_from_is_err_and c.from_residual-in_err-header.result c.from_residual-in_err-header.ensures.1 in
    rw (p.1, p.2)
    (header_refused (g.R.Source.left c.args.source.now) (g.R.Source.left c.read_header.new.source) (take c.in_ok-n.n c.read_header.new.buf) c.in_err-header.field-0.0
    (search rules) c.in_ok-n.ensures.taken c.in_err-header.ensures)

pub returns-in_err-header-clause-named : goal.returns-in_err-header-clause-named
returns-in_err-header-clause-named g c =
    let p = err_from_is_err_and c.from_residual-in_err-header.result c.from_residual-in_err-header.ensures.1 in
    rw (p.1, p.2) (header_named (take c.in_ok-n.n c.read_header.new.buf) c.in_err-header.field-0.0 c.in_err-header.ensures)

pub returns-clause-taken : goal.returns-clause-taken
returns-clause-taken g c =
    header_says (g.R.Source.left c.args.source.now) (g.R.Source.left c.read_header.new.source) (take c.in_ok-n.n c.read_header.new.buf) c.in_ok-header.header
    (search rules) c.in_ok-n.ensures.taken c.in_ok-header.ensures
