use Rattle.std.proofs.Common.{arith}
use Rattle.std.proofs.lemmas.Result.{IfOk-weaker}
use Rattle.sqlite.specs.Held.{state}
use Rattle.sqlite.specs.State.{HasCleanDisk}
use Rattle.exif_catalog_file.proofs.answers.answer.Goals as goal

pub returns : goal.returns
returns g c = record {
  answers = λ clean.
      let early : HasCleanDisk (state g.S.Store c.prepare.new.database) =
      omega (arith, c.answer_rows.ensures.survives.clean) in
      IfOk-weaker c.answer_rows.result _ _ (λ count all. (
        c.in_ok-statement.statement,
        c.prepare.new.database,
        c.hand_on.new.lines,
        c.in_ok-statement.ensures.shape early,
        c.in_ok-statement.ensures.same early,
        rw (c.in_ok-push_names.ensures, c.new-line.ensures.items, c.column_names.ensures)
            at c.in_ok-hand_on.ensures.taken,
        rw (c.in_ok-statement.ensures.text early) at all,
      )) (c.answer_rows.ensures.rows clean);
}
