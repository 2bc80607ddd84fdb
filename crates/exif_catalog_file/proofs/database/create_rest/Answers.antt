use Rattle.std.proofs.Common.{inr, arith}
use Rattle.sqlite.specs.Held.{state}
use Rattle.sqlite.specs.State.{HasCleanDisk}
use Rattle.exif_catalog_file.proofs.database.create_rest.Goals as goal

pub returns-clause-makes : goal.returns-clause-makes
returns-clause-makes g c clean =
    let early : HasCleanDisk (state g.S.Store c.execute.new.database) =
    omega (arith, c.execute-2.ensures.survives.clean) in
    inr (
      c.execute.new.database,
      c.in_ok-execute.ensures.runs early,
      rw c.create_text.ensures at (c.execute-2.ensures.runs clean),
    )
