use Rattle.std.proofs.Common.{◌≡◌, drop, map, []}
use Rattle.std.specs.String.{string_bytes}
use Rattle.exif_show_text.specs.Lines.{xmp_behind}
use Rattle.exif_xmp.specs.Properties.{property_view}
use Rattle.exif_show_text.proofs.lines.of_properties.Given as goal

-- the lines so far, and behind them those of the properties that are left, are those of all
abbrev pub invariant-loop-property : goal.invariant-loop-property
invariant-loop-property l =
    xmp_behind (string_bytes l.text) (map property_view (drop l.property-index l.properties))
    ≡ xmp_behind [] (map property_view l.properties)
