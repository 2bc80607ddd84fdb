use Rattle.std.proofs.Common.{length, ◌-◌, ◌≡◌, ◌≤◌, ◌+◌, drop}
use Rattle.exif_lengths.specs.Index.{more_len}
use Rattle.exif_lengths.proofs.index.more_len.Given as goal

abbrev pub invariant-loop-n : goal.invariant-loop-n
invariant-loop-n l = record {
  so_far : more_len l.bytes ≡ l.n + more_len (drop l.n l.bytes);
  within : l.n ≤ length l.bytes;
}

abbrev pub decreases-loop-n : goal.decreases-loop-n
decreases-loop-n l = length l.bytes - l.n
