use Rattle.std.proofs.Common.{◌≡◌, ◌≤◌, ◌<◌, ◌+◌, ◌-◌, drop, map, length}
use Rattle.exif_change.specs.Changed.{undone_of}
use Rattle.exif_change.specs.Together.{together_len}
use Rattle.exif_change.proofs.together.together_len.Given as goal

-- those so far, and those that follow the last of them, are all
abbrev pub invariant-loop-n : goal.invariant-loop-n
invariant-loop-n l = record {
  all : together_len (map undone_of l.left) ≡ l.n - 1 + together_len (map undone_of (drop (l.n - 1) l.left));
  some : 0 < l.n;
  within : l.n ≤ length l.left;
}

abbrev pub decreases-loop-n : goal.decreases-loop-n
decreases-loop-n l = length l.left - l.n
