use Rattle.std.proofs.Common.{◌≡◌, ◌≤◌, length, take}
use Rattle.exif_iptc.specs.Texts.{without_zeros}
use Rattle.exif_iptc.proofs.text.without_zeros.Given as goal

abbrev pub invariant-loop-end : goal.invariant-loop-end
invariant-loop-end l = record {
  same : without_zeros l.bytes ≡ without_zeros (take l.end l.bytes);
  within : l.end ≤ length l.bytes;
}

abbrev pub decreases-loop-end : goal.decreases-loop-end
decreases-loop-end l = l.end
