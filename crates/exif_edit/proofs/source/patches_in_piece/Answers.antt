use Rattle.std.proofs.lemmas.Result.{err_from_is_err_and}
use Rattle.exif_containers.specs.Located.{located_view}
use Rattle.exif_edit.proofs.SourceSteps.{edited_piece, unedited, unlocated}
use Rattle.exif_edit.proofs.source.patches_in_piece.Goals as goal

pub returns-in_err-at-clause-answer : goal.returns-in_err-at-clause-answer
returns-in_err-at-clause-answer g c =
    let p = err_from_is_err_and c.from_residual.result c.from_residual.ensures.1 in
    rw p.1
    (unlocated c.args.limit c.args.edit.now c.in_err-at.field-0.0 p.0
    (g.R.Source.left c.args.source.now) p.2 c.in_err-at.ensures.gives)

pub returns-in_err-patches-clause-answer : goal.returns-in_err-patches-clause-answer
returns-in_err-patches-clause-answer g c =
    let p = err_from_is_err_and c.from_residual-in_err-patches.result
    c.from_residual-in_err-patches.ensures.1 in
    rw (p.1, p.2)
    (unedited c.args.limit c.args.edit.now (located_view c.in_ok-at.at)
    c.in_err-patches.field-0.0 (g.R.Source.left c.args.source.now) c.in_ok-at.ensures.gives
    c.in_err-patches.ensures.answer)

pub returns-clause-answer : goal.returns-clause-answer
returns-clause-answer g c =
    edited_piece c.args.limit c.args.edit.now (located_view c.in_ok-at.at)
    c.in_ok-patches.patches.items c.in_ok-all.all.items (g.R.Source.left c.args.source.now)
    c.in_ok-at.ensures.gives c.in_ok-patches.ensures.answer
    (rw (c.as_slice.ensures.value, c.as_slice-2.ensures.value) at c.in_ok-all.ensures)
