use Rattle.std.proofs.Common.{◌≡◌, ◌+◌, drop}
use Rattle.exif_xml.specs.Scans.{run}
use Rattle.exif_xml.specs.Texts.{is_plain}
use Rattle.exif_xml.proofs.text.plain_len.Given as goal

abbrev pub invariant-loop-i : goal.invariant-loop-i
invariant-loop-i l = run is_plain l.input ≡ l.i + run is_plain (drop l.i l.input)
