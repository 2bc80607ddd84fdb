use Rattle.std.proofs.Common.{◌≡◌, drop, map}
use Rattle.exif_xmp.specs.Properties.{property_view}
use Rattle.exif_xmp_set.specs.Found.{found_in}
use Rattle.exif_xmp_set.proofs.found.found_in.Given as goal

-- the first of the properties that remain is that of all
abbrev pub invariant-loop-property : goal.invariant-loop-property
invariant-loop-property l =
    found_in (map property_view (drop l.property-index l.properties)) l.namespace l.path
    ≡ found_in (map property_view l.properties) l.namespace l.path
