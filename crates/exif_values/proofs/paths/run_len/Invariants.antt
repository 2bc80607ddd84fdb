use Rattle.std.proofs.Common.{◌≡◌, ◌+◌, drop, map}
use Rattle.exif_values.specs.Paths.{run_len}
use Rattle.exif_xmp.specs.Properties.{property_view}
use Rattle.exif_values.proofs.paths.run_len.Given as goal

-- the items so far, and those that follow them
abbrev pub invariant-loop-i : goal.invariant-loop-i
invariant-loop-i l =
    run_len l.array 1 (map property_view l.properties)
    ≡ l.i + run_len l.array (l.i + 1) (map property_view (drop l.i l.properties))
