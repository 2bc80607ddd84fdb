use Rattle.std.proofs.Common.{◌≡◌, drop, map}
use Rattle.exif_xmp.specs.Properties.{property_view}
use Rattle.exif_values.specs.Extensions.{extension_id}
use Rattle.exif_values.proofs.extension.extension_id.Given as goal

-- the first of the properties that are left is that of all
abbrev pub invariant-loop-property : goal.invariant-loop-property
invariant-loop-property l =
    extension_id (map property_view (drop l.property-index l.properties))
    ≡ extension_id (map property_view l.properties)
