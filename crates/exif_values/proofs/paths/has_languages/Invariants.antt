use Rattle.std.proofs.Common.{◌≡◌, drop, map}
use Rattle.exif_values.specs.Paths.{has_languages}
use Rattle.exif_xmp.specs.Properties.{property_view}
use Rattle.exif_values.proofs.paths.has_languages.Given as goal

-- each of the properties so far has a language
abbrev pub invariant-loop-item : goal.invariant-loop-item
invariant-loop-item l =
    has_languages (map property_view (drop l.item-index l.items))
    ≡ has_languages (map property_view l.items)
