use Rattle.std.proofs.lemmas.Result.{err_from_is_err_and}
use Rattle.exif_formats.proofs.Cr3Walk.{other_cut, other_to_end}
use Rattle.exif_formats.proofs.raw.cr3.walk.next_step.Goals as goal

pub returns-in_default-clause-goes : goal.returns-in_default-clause-goes
returns-in_default-clause-goes g c =
    let comes = rw c.in-Other.is at c.in_ok-held.ensures.comes in
    other_to_end c.args.name.now c.args.usertype.now (g.R.Source.left c.args.source.now) (g.R.Source.left c.next_box.new.source) (g.R.Source.left c.next_box.new.source) c.in-Other.held
    comes c.in_default.is

pub returns-in_err-skip-in-Other-clause-refused : goal.returns-in_err-skip-in-Other-clause-refused
returns-in_err-skip-in-Other-clause-refused g c =
    let p = err_from_is_err_and c.from_residual-in_err-skip-in-Other.result c.from_residual-in_err-skip-in-Other.ensures.1 in
    let comes = rw c.in-Other.is at c.in_ok-held.ensures.comes in
    rw (p.1, p.2)
    (other_cut c.args.name.now c.args.usertype.now c.in_err-skip-in-Other.field-0.0 (g.R.Source.left c.args.source.now) (g.R.Source.left c.next_box.new.source) c.in-Other.held c.in-Some.len comes
    c.in-Some.is c.in_err-skip-in-Other.ensures.short)
