use Rattle.std.proofs.Common.{◌≡◌, ◌+◌, drop}
use Rattle.std.specs.Option.{option_map}
use Rattle.exif_xml.specs.Scans.{tag_len}
use Rattle.exif_xml.proofs.scan.tag_len.Given as goal

abbrev pub invariant-loop-i : goal.invariant-loop-i
invariant-loop-i l = tag_len 0 l.input ≡ option_map (λ n. l.i + n) (tag_len l.quote (drop l.i l.input))
