use Rattle.std.proofs.Common.{◌≡◌, drop, map}
use Rattle.exif_xmp.specs.Properties.{property_view}
use Rattle.exif_xmp_set.specs.Added.{is_present}
use Rattle.exif_xmp_set.proofs.adding.is_present.Given as goal

-- the properties that remain decide
abbrev pub invariant-loop-property : goal.invariant-loop-property
invariant-loop-property l =
    is_present l.namespace l.path (map property_view l.properties)
    ≡ is_present l.namespace l.path (map property_view (drop l.property-index l.properties))
