use Rattle.std.proofs.Common.{◌≡◌, drop}
use Rattle.exif_locations.specs.Texts.{iptc_has_texts}
use Rattle.exif_locations.proofs.texts.iptc_has_texts.Given as goal

abbrev pub invariant-loop-i : goal.invariant-loop-i
invariant-loop-i l = iptc_has_texts l.input ≡ iptc_has_texts (drop l.i l.input)
