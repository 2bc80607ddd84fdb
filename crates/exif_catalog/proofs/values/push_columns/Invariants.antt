use Rattle.std.proofs.Common.{◌≡◌, ◌++◌, take}
use Rattle.std.specs.Prelude.{map, option_map}
use Rattle.exif_catalog.specs.Values.{column_value, stored}
use Rattle.exif_catalog.proofs.values.push_columns.Given as goal

-- the columns so far
abbrev pub invariant-loop-column : goal.invariant-loop-column
invariant-loop-column l = map stored l.row.items
    ≡ map stored l.initial.row.items ++ map (column_value (option_map (λ e. e.now.fields) l.exif)) (take l.column-index l.column-items)
