use Rattle.std.proofs.Common.{◌≡◌, ◌+◌, drop}
use Rattle.exif_xml.specs.Scans.{is_text, run}
use Rattle.exif_xml.proofs.scan.text_len.Given as goal

abbrev pub invariant-loop-i : goal.invariant-loop-i
invariant-loop-i l = run is_text l.input ≡ l.i + run is_text (drop l.i l.input)
