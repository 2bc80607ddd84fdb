use Rattle.std.proofs.Common.{◌≡◌, drop}
use Rattle.exif_iptc.specs.Forms.{all_digits}
use Rattle.exif_iptc.proofs.form.all_digits.Given as goal

abbrev pub invariant-loop-i : goal.invariant-loop-i
invariant-loop-i l = all_digits l.bytes ≡ all_digits (drop l.i l.bytes)
