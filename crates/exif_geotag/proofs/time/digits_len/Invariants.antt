use Rattle.std.proofs.Common.{◌≡◌, ◌+◌, drop}
use Rattle.exif_geotag.specs.Times.{digits_len}
use Rattle.exif_geotag.proofs.time.digits_len.Given as goal

abbrev pub invariant-loop-at : goal.invariant-loop-at
invariant-loop-at l = digits_len l.text ≡ l.at + digits_len (drop l.at l.text)
