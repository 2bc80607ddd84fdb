use Rattle.std.proofs.Common.{◌≡◌, ◌≤◌, ◌+◌, ◌*◌, ◌^◌}
use Rattle.exif_lengths.specs.Pictures.{entries_len}
use Rattle.exif_lengths.proofs.pictures.entries_len.Given as goal

-- the entries so far and those that are left have as many bytes as all; each has fewer than 2^35
abbrev pub invariant-loop-left : goal.invariant-loop-left
invariant-loop-left l = record {
  sum : l.len + entries_len l.little l.left l.rest ≡ entries_len l.fn.little l.fn.count l.fn.bytes;
  most : l.len + l.left * 2 ^ 35 ≤ l.fn.count * 2 ^ 35;
}

abbrev pub decreases-loop-left : goal.decreases-loop-left
decreases-loop-left l = l.left
