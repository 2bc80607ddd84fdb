use Rattle.std.proofs.Common.{sym, ◌∙◌}
use Rattle.std.proofs.lemmas.Result.{err_from_is_err_and}
use Rattle.exif_edit_base.specs.Causes.{of_data}
use Rattle.exif_edit_base.specs.Readings.{read_of, reading}
use Rattle.exif_edit_base.proofs.LimitedSteps.{limited_is, limited_on, limited_read}
use Rattle.exif_edit.specs.Erasing.{erase_patches}
use Rattle.exif_edit.proofs.EraseSteps.{erase_refused}
use Rattle.exif_edit.proofs.erase.plan.Goals as goal

pub returns-in_err-located-clause-answer : goal.returns-in_err-located-clause-answer
returns-in_err-located-clause-answer c =
    let p = err_from_is_err_and c.from_residual.result c.from_residual.ensures.1 in
    rw (p.1, p.2) (limited_on c.args.limit c.args.bytes.now c.in_err-located.field-0.0
    (of_data (reading c.args.bytes.now)) (erase_patches c.args.bytes.now)
    c.in_err-located.ensures.reads (λ r h. erase_refused c.args.bytes.now r h))

pub located_plan-requires-clause-reads : goal.located_plan-requires-clause-reads
located_plan-requires-clause-reads c =
    (limited_read c.args.limit c.args.bytes.now (read_of c.in_ok-located.located.parsed)
    c.in_ok-located.ensures.reads).1

pub returns-clause-answer : goal.returns-clause-answer
returns-clause-answer c =
    c.in_ok-plan.ensures.answer
    ∙ sym (limited_is c.args.limit c.args.bytes.now (erase_patches c.args.bytes.now)
    (limited_read c.args.limit c.args.bytes.now (read_of c.in_ok-located.located.parsed)
    c.in_ok-located.ensures.reads).0)
