use Rattle.std.proofs.Common.{◌≡◌, ◌+◌, drop}
use Rattle.exif_xml.specs.Scans.{is_space, run}
use Rattle.exif_xml.proofs.scan.space_len.Given as goal

abbrev pub invariant-loop-i : goal.invariant-loop-i
invariant-loop-i l = run is_space l.input ≡ l.i + run is_space (drop l.i l.input)
