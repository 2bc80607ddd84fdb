use Rattle.std.proofs.Common.{◌≡◌, drop, map}
use Rattle.exif_xmp.specs.Properties.{property_view}
use Rattle.exif_values.specs.Extensions.{names_one}
use Rattle.exif_values.proofs.extension.names_one.Given as goal

-- one of the properties that are left is one of all, if none before them is
abbrev pub invariant-loop-property : goal.invariant-loop-property
invariant-loop-property l =
    names_one (map property_view (drop l.property-index l.properties))
    ≡ names_one (map property_view l.properties)
