use Rattle.std.proofs.Common.{◌≡◌, drop}
use Rattle.exif_xmp.specs.Characters.{is_blank}
use Rattle.exif_xmp.proofs.characters.is_blank.Given as goal

abbrev pub invariant-loop-i : goal.invariant-loop-i
invariant-loop-i l = is_blank l.bytes ≡ is_blank (drop l.i l.bytes)
