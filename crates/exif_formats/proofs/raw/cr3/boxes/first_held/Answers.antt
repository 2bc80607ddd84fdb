use Rattle.std.proofs.Common.{◌<◌, length, ◌∙◌, sym, arith}
use Rattle.std.proofs.lemmas.Result.{err_from_is_err_and}
use Rattle.std.proofs.lemmas.Bool.Decides.{nat_tests}
use Rattle.exif_formats.specs.Cr3Steps.{box_view}
use Rattle.exif_formats.proofs.Naming.{named_broken}
use Rattle.exif_formats.proofs.Cr3Boxes.{first-shorter, held_behind, held_refuses}
use Rattle.exif_formats.proofs.raw.cr3.boxes.first_held.Goals as goal

pub returns-in_err-next-clause-answers : goal.returns-in_err-next-clause-answers
returns-in_err-next-clause-answers c =
    let p = err_from_is_err_and c.from_residual.result c.from_residual.ensures.1 in
    let some : 0 < length c.loop-boxes.boxes = grind (arith, nat_tests) in
    rw (p.1, p.2, ← c.loop-boxes.invariant)
    (held_refuses c.in_err-next.field-0.0 c.args.name.now c.args.usertype.now c.loop-boxes.boxes some c.in_err-next.ensures.refused.0 c.in_err-next.ensures.refused.1)

pub returns-in_err-next-clause-named : goal.returns-in_err-next-clause-named
returns-in_err-next-clause-named c =
    let p = err_from_is_err_and c.from_residual.result c.from_residual.ensures.1 in
    rw (p.1, p.2) (named_broken c.in_err-next.field-0.0 c.in_err-next.ensures.refused.1)

pub loop-boxes-smaller : goal.loop-boxes-smaller
loop-boxes-smaller c = first-shorter c.loop-boxes.boxes (box_view c.in_ok-next.next c.next_box.new.boxes) c.in_ok-next.ensures.taken

pub loop-boxes-preserved : goal.loop-boxes-preserved
loop-boxes-preserved c =
    sym (held_behind c.args.name.now c.args.usertype.now c.loop-boxes.boxes (box_view c.in_ok-next.next c.next_box.new.boxes) c.in_ok-next.ensures.taken
    (sym c.in_default.ensures))
    ∙ c.loop-boxes.invariant
