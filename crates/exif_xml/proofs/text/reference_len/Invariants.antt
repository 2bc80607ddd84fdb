use Rattle.std.proofs.Common.{◌≡◌, ◌+◌, drop}
use Rattle.exif_xml.specs.Scans.{run}
use Rattle.exif_xml.specs.Texts.{is_reference_byte}
use Rattle.exif_xml.proofs.text.reference_len.Given as goal

abbrev pub invariant-loop-i : goal.invariant-loop-i
invariant-loop-i l = run is_reference_byte l.input ≡ l.i + run is_reference_byte (drop l.i l.input)
