use Rattle.std.proofs.Common.{◌≡◌, [], drop, false, map}
use Rattle.std.specs.String.{string_bytes}
use Rattle.exif_columns.specs.ValueCells.{xmp_behind}
use Rattle.exif_xmp.specs.Properties.{property_view}
use Rattle.exif_columns.proofs.value_cells.xmp_texts.Given as goal

-- the properties that are left add what all of them do
abbrev pub invariant-loop-property : goal.invariant-loop-property
invariant-loop-property l =
    xmp_behind (string_bytes l.text) l.started (map property_view (drop l.property-index l.properties))
    ≡ xmp_behind [] false (map property_view l.properties)
