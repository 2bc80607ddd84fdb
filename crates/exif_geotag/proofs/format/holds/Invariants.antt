use Rattle.std.proofs.Common.{◌≡◌, drop}
use Rattle.exif_geotag.specs.Formats.{holds}
use Rattle.exif_geotag.proofs.format.holds.Given as goal

abbrev pub invariant-loop-at : goal.invariant-loop-at
invariant-loop-at l = holds l.word l.bytes ≡ holds l.word (drop l.at l.bytes)
