use Rattle.std.proofs.Common.{◌≡◌, [], drop, false, map}
use Rattle.std.specs.String.{string_bytes}
use Rattle.exif_columns.specs.ValueCells.{iptc_behind}
use Rattle.exif_iptc.specs.Values.{value_view}
use Rattle.exif_columns.proofs.value_cells.iptc_cell.Given as goal

-- the values that are left add what all of them do
abbrev pub invariant-loop-value : goal.invariant-loop-value
invariant-loop-value l =
    iptc_behind l.id (string_bytes l.text) l.started (map value_view (drop l.value-index l.values))
    ≡ iptc_behind l.id [] false (map value_view l.values)
