use Rattle.std.proofs.Common.{Ok, take}
use Rattle.sqlite.specs.Held.{state}
use Rattle.sqlite.specs.State.{HasCleanDisk}
use Rattle.exif_catalog.specs.Reading.{Deletes}
use Rattle.exif_catalog_file.specs.Handing.{Steps}
use Rattle.exif_catalog.proofs.catalog.delete_rows.Given as goal

-- the rows of the moves so far are taken away
abbrev pub invariant-loop-moved : goal.invariant-loop-moved
invariant-loop-moved g l =
    (HasCleanDisk (state g.S.Store l.database) → HasCleanDisk (state g.S.Store l.initial.database))
    × (HasCleanDisk (state g.S.Store l.database)
    → Steps (λ was move is. Deletes g.S.Store was move is (Ok tt)) l.initial.database
    (take l.moved-index l.moves) l.database)
