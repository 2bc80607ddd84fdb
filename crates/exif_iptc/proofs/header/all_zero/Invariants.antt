use Rattle.std.proofs.Common.{◌≡◌, drop}
use Rattle.exif_iptc.specs.Datasets.{all_zero}
use Rattle.exif_iptc.proofs.header.all_zero.Given as goal

abbrev pub invariant-loop-i : goal.invariant-loop-i
invariant-loop-i l = all_zero l.input ≡ all_zero (drop l.i l.input)
