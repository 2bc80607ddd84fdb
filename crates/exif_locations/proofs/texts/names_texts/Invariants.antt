use Rattle.std.proofs.Common.{◌≡◌, drop}
use Rattle.exif_locations.specs.Texts.{names_texts}
use Rattle.exif_locations.proofs.texts.names_texts.Given as goal

abbrev pub invariant-loop-i : goal.invariant-loop-i
invariant-loop-i l = names_texts l.packet ≡ names_texts (drop l.i l.packet)
