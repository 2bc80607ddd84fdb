use Rattle.std.proofs.Common.{◌≡◌, ◌+◌, drop}
use Rattle.exif_xml.specs.Scans.{run}
use Rattle.exif_xml.specs.Names.{is_prefix_byte}
use Rattle.exif_xml.proofs.name.prefix_len.Given as goal

abbrev pub invariant-loop-i : goal.invariant-loop-i
invariant-loop-i l = run is_prefix_byte l.input ≡ l.i + run is_prefix_byte (drop l.i l.input)
