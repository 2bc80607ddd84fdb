use Rattle.std.proofs.Common.{◌≡◌, ◌++◌, drop, map, take}
use Rattle.exif_xmp.specs.Properties.{property_view}
use Rattle.exif_values.specs.Arrays.{items_from}
use Rattle.exif_values.proofs.arrays.array_of.Given as goal

-- the properties so far are items, and those that are left have the other ones
abbrev pub invariant-loop-i : goal.invariant-loop-i
invariant-loop-i l =
    map property_view (take l.i l.all)
    ++ items_from l.namespace l.name l.i (map property_view (drop l.i l.all))
    ≡ items_from l.namespace l.name 0 (map property_view l.all)
