use Rattle.std.proofs.Common.{◌≡◌, drop}
use Rattle.exif_geotag.specs.Elements.{quoted_in}
use Rattle.exif_geotag.proofs.element.quoted_in.Given as goal

abbrev pub invariant-loop-at : goal.invariant-loop-at
invariant-loop-at l = quoted_in l.input ≡ quoted_in (drop l.at l.input)
