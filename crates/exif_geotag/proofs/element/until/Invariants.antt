use Rattle.std.proofs.Common.{◌≡◌, ◌+◌, drop}
use Rattle.exif_geotag.specs.Elements.{until}
use Rattle.exif_geotag.proofs.element.until.Given as goal

abbrev pub invariant-loop-at : goal.invariant-loop-at
invariant-loop-at l = until l.mark l.text ≡ l.at + until l.mark (drop l.at l.text)
