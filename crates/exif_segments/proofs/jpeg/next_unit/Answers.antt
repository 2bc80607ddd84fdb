use Rattle.std.proofs.Common.{rules, arith, refl}
use Rattle.std.proofs.lemmas.Result.{err_from_is_err_and}
use Rattle.exif_types.specs.Refusals.{Fails}
use Rattle.exif_segments.specs.Answer.{IsCollected}
use Rattle.exif_segments.specs.Jpeg.{broken_jpeg}
use Rattle.exif_segments.proofs.JpegMoves.{unit_soi, unit_eoi, unit_none, unit_segment, short_refuses, segment_holds}
use Rattle.exif_segments.proofs.jpeg.next_unit.Goals as goal

pub returns-in-216-clause-refused : goal.returns-in-216-clause-refused
returns-in-216-clause-refused g c = unit_soi _ _ _ _ c.in_ok-code.code c.in_ok-code.ensures.taken c.in-216.is

pub returns-in-217-clause-refused : goal.returns-in-217-clause-refused
returns-in-217-clause-refused g c = unit_eoi _ _ _ _ c.in_ok-code.code c.in_ok-code.ensures.taken c.in-217.is

pub returns-in_ok-payload-in_default-2-clause-taken :
    goal.returns-in_ok-payload-in_default-2-clause-taken
returns-in_ok-payload-in_default-2-clause-taken g c =
    unit_segment (λ v. v.items) _ _ _ _ _ _ c.in_ok-code.code _ c.in_ok-code.ensures.taken c.in_ok-payload-in_default-2.ensures.taken

pub returns-in_default-clause-taken : goal.returns-in_default-clause-taken
returns-in_default-clause-taken g c =
    unit_none _ _ _ _ c.in_ok-code.code (search rules) (search rules) (search rules) c.in_ok-code.ensures.taken

pub returns-in_err-code-clause-refused : goal.returns-in_err-code-clause-refused
returns-in_err-code-clause-refused g c =
    let p = err_from_is_err_and c.from_residual.result c.from_residual.ensures.1 in
    rw (p.1, p.2) (short_refuses _ (g.R.Source.left c.args.source.now) c.args.budget.now c.in_err-code.ensures.short)

pub returns-in_err-payload-in_default-2-clause-refused :
    goal.returns-in_err-payload-in_default-2-clause-refused
returns-in_err-payload-in_default-2-clause-refused g c =
    let p = err_from_is_err_and c.from_residual-in_err-payload-in_default-2.result c.from_residual-in_err-payload-in_default-2.ensures.1 in
    rw (p.1, p.2) (segment_holds (Fails c.in_err-payload-in_default-2.field-0.0) (g.R.Source.left c.args.source.now) _ c.args.budget.now _ c.in_ok-code.code c.in_ok-code.ensures.taken c.in_err-payload-in_default-2.ensures.refused)

pub returns-in_err-payload-in_default-2-clause-memory :
    goal.returns-in_err-payload-in_default-2-clause-memory
returns-in_err-payload-in_default-2-clause-memory g c =
    let p = err_from_is_err_and c.from_residual-in_err-payload-in_default-2.result c.from_residual-in_err-payload-in_default-2.ensures.1 in
    rw (p.1, p.2) (λ h. segment_holds (IsCollected broken_jpeg) (g.R.Source.left c.args.source.now) _ c.args.budget.now _ c.in_ok-code.code c.in_ok-code.ensures.taken (c.in_err-payload-in_default-2.ensures.memory h))

pub returns-in-216-clause-named : goal.returns-in-216-clause-named
returns-in-216-clause-named g c = (2, omega arith, refl)

pub returns-in-217-clause-named : goal.returns-in-217-clause-named
returns-in-217-clause-named g c = (4, omega arith, refl)
