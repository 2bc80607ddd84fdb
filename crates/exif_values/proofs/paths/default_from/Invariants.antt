use Rattle.std.proofs.Common.{◌≡◌, drop, map}
use Rattle.exif_values.specs.Paths.{default_from}
use Rattle.exif_xmp.specs.Properties.{property_view}
use Rattle.exif_values.proofs.paths.default_from.Given as goal

-- no text so far is for any language
abbrev pub invariant-loop-i : goal.invariant-loop-i
invariant-loop-i l =
    default_from (map property_view (drop l.i l.items))
    ≡ default_from (map property_view l.items)
