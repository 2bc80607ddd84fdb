use Rattle.std.proofs.Common.{◌≡◌, drop}
use Rattle.exif_iptc.specs.Charsets.{charset_of}
use Rattle.exif_iptc.proofs.charset.charset_of.Given as goal

abbrev pub invariant-loop-i : goal.invariant-loop-i
invariant-loop-i l = charset_of l.input l.datasets ≡ charset_of l.input (drop l.i l.datasets)
