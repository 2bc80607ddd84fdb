use Rattle.std.proofs.Common.{◌≡◌, ◌+◌, drop}
use Rattle.std.specs.Option.{option_map}
use Rattle.exif_locations.specs.XmpScans.{quoted}
use Rattle.exif_locations.proofs.xmp.scan.quoted.Given as goal

abbrev pub invariant-loop-i : goal.invariant-loop-i
invariant-loop-i l = quoted l.quote l.input ≡ option_map (λ n. l.i + n) (quoted l.quote (drop l.i l.input))
