use Rattle.std.proofs.Common.{◌≡◌, drop, map}
use Rattle.exif_columns.specs.Columns.{column_seen, columns_from}
use Rattle.exif_columns.specs.Names.{names_seen}
use Rattle.exif_columns.proofs.ColumnSteps.{onto}
use Rattle.exif_columns.proofs.column.columns_from.Given as goal

-- the columns so far are in front of those of the other names
abbrev pub invariant-loop-name : goal.invariant-loop-name
invariant-loop-name l =
    columns_from (names_seen l.names)
    ≡ onto (map column_seen l.columns.items) (columns_from (names_seen (drop l.name-index l.names)))
