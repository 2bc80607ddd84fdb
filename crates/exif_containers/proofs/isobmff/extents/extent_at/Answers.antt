use Rattle.std.proofs.Common.{◌≡◌, Some, Ok, cond, eqb, arith}
use Rattle.std.proofs.lemmas.Bool.Decides.{nat_tests}
use Rattle.std.proofs.lemmas.Result.{err_from_is_err_and}
use Rattle.exif_base.specs.Told.{left_behind}
use Rattle.exif_types.specs.Refusals.{Fails}
use Rattle.exif_containers.proofs.IsobmffNames.{fails_named, one_part_only}
use Rattle.exif_containers.proofs.IsobmffExtents.{part_at}
use Rattle.exif_containers.proofs.isobmff.extents.extent_at.Goals as goal
use Rattle.exif_containers.proofs.isobmff.extents.extent_at.Goals.{then-len-eq0, else-len-eq0}

pub returns-in_err-part-clause-named : goal.returns-in_err-part-clause-named
returns-in_err-part-clause-named g c =
    let p = err_from_is_err_and c.from_residual-in_err-part.result c.from_residual-in_err-part.ensures.1 in
    rw (p.1, p.2) (fails_named c.in_err-part.field-0.0 _ (one_part_only c.args.len _) c.in_err-part.ensures.gives)

pub returns-in_err-part-clause-gives : goal.returns-in_err-part-clause-gives
returns-in_err-part-clause-gives g c =
    let p = err_from_is_err_and c.from_residual-in_err-part.result c.from_residual-in_err-part.ensures.1 in
    let wanted : c.if-len-eq0.wanted ≡ cond (eqb c.args.len 0) 65536 c.args.len =
    elim c.if-len-eq0.branch [ then-len-eq0 w ↦ grind (arith, nat_tests) | else-len-eq0 w ↦ grind (arith, nat_tests) ] in
    rw (p.1, p.2)
    (part_at (Fails c.in_err-part.field-0.0) (left_behind (Some c.args.at) (g.R.Source.stream c.args.source.now)) _ c.args.len c.if-len-eq0.wanted c.in-Some.bytes.items c.deref.result.now (rw c.in-Some.is at c.in_ok-bytes.ensures.taken)
    wanted c.deref.ensures.value c.in_err-part.ensures.gives)

pub returns-clause-gives : goal.returns-clause-gives
returns-clause-gives g c =
    let wanted : c.if-len-eq0.wanted ≡ cond (eqb c.args.len 0) 65536 c.args.len =
    elim c.if-len-eq0.branch [ then-len-eq0 w ↦ grind (arith, nat_tests) | else-len-eq0 w ↦ grind (arith, nat_tests) ] in
    part_at (λ t. t ≡ Ok c.in_ok-part.part.items) (left_behind (Some c.args.at) (g.R.Source.stream c.args.source.now)) _ c.args.len c.if-len-eq0.wanted c.in-Some.bytes.items c.deref.result.now (rw c.in-Some.is at c.in_ok-bytes.ensures.taken)
    wanted c.deref.ensures.value c.in_ok-part.ensures.gives
