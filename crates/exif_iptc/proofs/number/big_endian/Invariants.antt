use Rattle.std.proofs.Common.{◌≡◌, ◌<◌, ◌^◌, take}
use Rattle.exif_iptc.specs.Numbers.{big_endian}
use Rattle.exif_iptc.proofs.number.big_endian.Given as goal

abbrev pub invariant-loop-i : goal.invariant-loop-i
invariant-loop-i l = record {
  value : l.number ≡ big_endian (take l.i l.bytes);
  below : l.number < 256 ^ l.i;
}
