use Rattle.std.proofs.Common.{◌≡◌, ◌+◌, drop}
use Rattle.std.specs.Option.{option_map}
use Rattle.exif_xml.specs.Scans.{quoted_len}
use Rattle.exif_xml.proofs.scan.quoted_len.Given as goal

abbrev pub invariant-loop-i : goal.invariant-loop-i
invariant-loop-i l = quoted_len l.quote l.input ≡ option_map (λ n. l.i + n) (quoted_len l.quote (drop l.i l.input))
