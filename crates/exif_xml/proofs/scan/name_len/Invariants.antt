use Rattle.std.proofs.Common.{◌≡◌, ◌+◌, drop}
use Rattle.exif_xml.specs.Scans.{is_name_byte, run}
use Rattle.exif_xml.proofs.scan.name_len.Given as goal

abbrev pub invariant-loop-i : goal.invariant-loop-i
invariant-loop-i l = run is_name_byte l.input ≡ l.i + run is_name_byte (drop l.i l.input)
