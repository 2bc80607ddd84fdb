use Rattle.std.proofs.Common.{◌≡◌, drop}
use Rattle.exif_locations.specs.XmpNames.{behind_colon}
use Rattle.exif_locations.proofs.xmp.names.behind_colon.Given as goal

abbrev pub invariant-loop-i : goal.invariant-loop-i
invariant-loop-i l = behind_colon l.name ≡ behind_colon (drop l.i l.name)
