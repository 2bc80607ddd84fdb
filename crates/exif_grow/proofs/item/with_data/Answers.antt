use Rattle.std.proofs.Common.{Ok, sym, ap, ◌∙◌}
use Rattle.std.proofs.lemmas.Result.{err_from_is_err_and}
use Rattle.exif_edit_base.proofs.CauseSteps.{refused_on}
use Rattle.exif_grow.specs.Growing.{added_of}
use Rattle.exif_grow.specs.Items.{item_grown, item_growth}
use Rattle.exif_grow.proofs.ItemSteps.{file_grown, file_refused}
use Rattle.exif_grow.proofs.item.with_data.Goals as goal

pub returns-in_err-growth-clause-answer : goal.returns-in_err-growth-clause-answer
returns-in_err-growth-clause-answer c =
    let p = err_from_is_err_and c.from_residual.result c.from_residual.ensures.1 in
    rw (p.1, p.2)
    (refused_on c.in_err-growth.field-0.0 (item_growth c.args.file.now c.args.new.now)
    (item_grown c.args.file.now c.args.new.now) c.in_err-growth.ensures.answer
    (file_refused c.args.file.now c.args.new.now))

pub returns-clause-answer : goal.returns-clause-answer
returns-clause-answer c =
    file_grown c.args.file.now c.args.new.now (added_of c.in_ok-growth.growth)
    c.in_ok-growth.ensures.answer
    ∙ ap (λ x. Ok x) (sym c.in_ok-grown.ensures)
