use Rattle.std.proofs.Common.{◌≡◌, drop}
use Rattle.exif_locations.specs.Stray.{has_stray_from, has_stray_text}
use Rattle.exif_locations.proofs.stray.has_stray_text.Given as goal

abbrev pub invariant-loop-b : goal.invariant-loop-b
invariant-loop-b l = has_stray_text l.packet ≡ has_stray_from (drop l.b-index l.packet) l.at
