use Rattle.std.proofs.Common.{◌≡◌, ◌++◌, drop, map}
use Rattle.exif_xmp.specs.Properties.{property_view}
use Rattle.exif_values.specs.Regions.{microsoft_names}
use Rattle.exif_values.proofs.regions.microsoft_names.Given as goal

-- the names so far and those of the properties that are left are those of all
abbrev pub invariant-loop-property : goal.invariant-loop-property
invariant-loop-property l =
    map (λ t. t.items) l.names.items
    ++ microsoft_names (map property_view (drop l.property-index l.properties))
    ≡ microsoft_names (map property_view l.properties)
