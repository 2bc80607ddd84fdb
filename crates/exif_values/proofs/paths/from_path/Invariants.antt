use Rattle.std.proofs.Common.{◌≡◌, drop, map}
use Rattle.exif_values.specs.Paths.{from_path}
use Rattle.exif_xmp.specs.Properties.{property_view}
use Rattle.exif_values.proofs.paths.from_path.Given as goal

-- no property so far has the path
abbrev pub invariant-loop-i : goal.invariant-loop-i
invariant-loop-i l =
    from_path l.path (map property_view (drop l.i l.properties))
    ≡ from_path l.path (map property_view l.properties)
