use Rattle.std.proofs.lemmas.Result.{err_from_is_err_and}
use Rattle.exif_formats.proofs.Cr3Walk.{header_cut}
use Rattle.exif_formats.proofs.raw.cr3.walk.next_header.Goals as goal

pub returns-in_err-n-clause-short : goal.returns-in_err-n-clause-short
returns-in_err-n-clause-short g c =
    let p = err_from_is_err_and c.from_residual.result c.from_residual.ensures.1 in
    rw (p.1, p.2) (header_cut c.in_err-n.field-0.0 (g.R.Source.left c.args.source.now) c.in_err-n.ensures.short)
