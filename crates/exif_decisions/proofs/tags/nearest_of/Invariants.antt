use Rattle.std.proofs.Common.{◌≡◌, drop, map}
use Rattle.exif_table.specs.View.{row_view}
use Rattle.exif_decisions.specs.Tags.{near_of, nearest_of}
use Rattle.exif_decisions.proofs.tags.nearest_of.Given as goal

-- the nearest so far, with the rows that are left
abbrev pub invariant-loop-row : goal.invariant-loop-row
invariant-loop-row l =
    nearest_of l.name (map row_view (drop l.row-index l.rows)) (near_of l.best)
    ≡ nearest_of l.name (map row_view l.rows) (near_of l.initial.best)
