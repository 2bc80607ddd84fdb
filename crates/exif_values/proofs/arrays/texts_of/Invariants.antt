use Rattle.std.proofs.Common.{◌≡◌, ◌++◌, drop, map}
use Rattle.exif_xmp.specs.Properties.{property_view}
use Rattle.exif_values.specs.Arrays.{texts_of}
use Rattle.exif_values.proofs.arrays.texts_of.Given as goal

-- the texts so far and those of the properties that are left are those of all
abbrev pub invariant-loop-property : goal.invariant-loop-property
invariant-loop-property l =
    map (λ t. t.items) l.texts.items
    ++ texts_of (map property_view (drop l.property-index l.properties))
    ≡ texts_of (map property_view l.properties)
