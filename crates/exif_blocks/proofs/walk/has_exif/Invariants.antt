use Rattle.std.proofs.Common.{◌≡◌, drop}
use Rattle.exif_blocks.specs.Blocks.{has_exif}
use Rattle.exif_blocks.proofs.walk.has_exif.Given as goal

-- no part that was passed is Exif data
abbrev pub invariant-loop-part : goal.invariant-loop-part
invariant-loop-part l = has_exif (drop l.part-index l.parts) ≡ has_exif l.fn.parts
