use Rattle.std.proofs.Common.{◌≡◌, drop, map}
use Rattle.exif_xmp.specs.Properties.{property_view}
use Rattle.exif_values.specs.Arrays.{from_first}
use Rattle.exif_values.proofs.arrays.from_first.Given as goal

-- the first item of the properties that are left is that of all
abbrev pub invariant-loop-i : goal.invariant-loop-i
invariant-loop-i l =
    from_first l.namespace l.name (map property_view (drop l.i l.properties))
    ≡ from_first l.namespace l.name (map property_view l.properties)
