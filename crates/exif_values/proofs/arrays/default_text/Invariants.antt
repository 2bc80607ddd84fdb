use Rattle.std.proofs.Common.{◌≡◌, drop, map}
use Rattle.exif_xmp.specs.Properties.{property_view}
use Rattle.exif_values.specs.Arrays.{default_text}
use Rattle.exif_values.proofs.arrays.default_text.Given as goal

-- the first text of the properties that are left is that of all
abbrev pub invariant-loop-property : goal.invariant-loop-property
invariant-loop-property l =
    default_text (map property_view (drop l.property-index l.properties))
    ≡ default_text (map property_view l.properties)
