use Rattle.std.proofs.Common.{◌≡◌, drop, map}
use Rattle.exif_xmp.specs.Properties.{property_view}
use Rattle.exif_xmp_set.specs.Contents.{is_replaced}
use Rattle.exif_xmp_set.proofs.read_back.replaced_from.Given as goal

-- the properties that remain decide
abbrev pub invariant-loop-i : goal.invariant-loop-i
invariant-loop-i l =
    is_replaced l.is_done l.namespace l.path l.text (map property_view l.old) (map property_view l.new)
    ≡ is_replaced l.is_past l.namespace l.path l.text (map property_view (drop l.i l.old)) (map property_view (drop l.i l.new))
