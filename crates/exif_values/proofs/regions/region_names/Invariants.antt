use Rattle.std.proofs.Common.{◌≡◌, drop, map}
use Rattle.exif_xmp.specs.Properties.{property_view}
use Rattle.exif_values.specs.Regions.{names_from, region_names, region_view}
use Rattle.exif_values.proofs.regions.region_names.Given as goal

-- what is known and the properties that are left have the names of all
abbrev pub invariant-loop-property : goal.invariant-loop-property
invariant-loop-property l =
    names_from (record { names = map (λ t. t.items) l.names.items; region = region_view l.region })
    (map property_view (drop l.property-index l.properties))
    ≡ region_names (map property_view l.properties)
