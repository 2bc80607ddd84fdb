use Rattle.std.proofs.Common.{Err, List, Result, subst, sym, ℕ, ◌∙◌}
use Rattle.std.proofs.lemmas.Result.{err_from_is_err_and}
use Rattle.exif_edit_base.specs.Causes.{Cause, Edits}
use Rattle.exif_edit_base.specs.Readings.{read_of}
use Rattle.exif_edit_base.specs.Plans.{planned}
use Rattle.exif_edit.proofs.EraseSteps.{zeros_answer, zeros_carried}
use Rattle.exif_edit.proofs.erase.erase_located_gps.Goals as goal

pub returns-in_err-carry_out-clause-answer : goal.returns-in_err-carry_out-clause-answer
returns-in_err-carry_out-clause-answer c =
    let e = zeros_answer c.args.bytes.now c.in_ok-zeros.zeros.patches.items
    c.in_ok-zeros.zeros.unshared (read_of c.args.located.parsed)
    (planned c.args.bytes.now c.plan_of.result) c.requires.reads
    c.in_ok-zeros.ensures.patches c.in_ok-zeros.ensures.unshared
    (c.plan_of.ensures.planned c.args.bytes.now) in
    let p = err_from_is_err_and c.from_residual-in_err-carry_out.result
    c.from_residual-in_err-carry_out.ensures.1 in
    let P : Result (List ℕ) Cause → Type 0 = λ answer.
    Edits (Err c.in_err-carry_out.field-0.0) c.args.bytes.now c.carry_out.new.bytes answer in
    rw (p.1, p.2) (subst P (zeros_carried c.args.bytes.now c.plan_of.result e)
    c.in_err-carry_out.ensures)

pub returns-clause-answer : goal.returns-clause-answer
returns-clause-answer c =
    sym (zeros_carried c.args.bytes.now c.plan_of.result
    (zeros_answer c.args.bytes.now c.in_ok-zeros.zeros.patches.items
    c.in_ok-zeros.zeros.unshared (read_of c.args.located.parsed)
    (planned c.args.bytes.now c.plan_of.result) c.requires.reads
    c.in_ok-zeros.ensures.patches c.in_ok-zeros.ensures.unshared
    (c.plan_of.ensures.planned c.args.bytes.now)))
    ∙ c.in_ok-carry_out.ensures
