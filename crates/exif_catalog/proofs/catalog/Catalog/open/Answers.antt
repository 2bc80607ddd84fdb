use Rattle.std.proofs.Common.{arith}
use Rattle.sqlite.specs.Held.{state}
use Rattle.sqlite.specs.State.{HasCleanDisk}
use Rattle.sqlite.proofs.Callers.{unchanged_then}
use Rattle.exif_catalog.proofs.catalog.Catalog.open.Goals as goal

pub returns-clause-known : goal.returns-clause-known
returns-clause-known g c clean =
    let third : HasCleanDisk (state g.S.Store c.prepare.new.database) =
    omega (arith, c.prepare-2.ensures.survives.clean) in
    let second : HasCleanDisk (state g.S.Store c.read_rows.new.database) =
    omega (arith, c.prepare.ensures.survives.clean) in
    let first : HasCleanDisk (state g.S.Store c.prepare_tables.new.database) =
    omega (arith, c.read_rows.ensures.survives.clean) in (
      c.prepare_tables.new.database,
      c.read_rows.new.database,
      c.in_ok-prepare_tables.ensures.prepares first,
      c.in_ok-rows.ensures.rows second,
      unchanged_then _ _ _ (c.in_ok-insert.ensures.same third) (c.in_ok-mark.ensures.same clean),
    )
