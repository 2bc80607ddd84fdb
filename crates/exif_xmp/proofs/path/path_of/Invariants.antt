use Rattle.std.proofs.Common.{◌≡◌, [], drop}
use Rattle.exif_xmp.specs.Paths.{path_from}
use Rattle.exif_xmp.proofs.path.path_of.Given as goal

abbrev pub invariant-loop-i : goal.invariant-loop-i
invariant-loop-i l = path_from l.packet [] l.frames ≡ path_from l.packet l.path.items (drop l.i l.frames)
