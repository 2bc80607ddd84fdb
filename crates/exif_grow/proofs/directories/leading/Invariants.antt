use Rattle.std.proofs.Common.{◌≡◌, ◌≤◌, ◌+◌, ◌-◌, ◌*◌, length}
use Rattle.exif_base.specs.Orders.{number_of}
use Rattle.exif_grow.specs.Directories.{leading}
use Rattle.exif_grow.proofs.directories.leading.Given as goal

abbrev pub invariant-loop-passed : goal.invariant-loop-passed
invariant-loop-passed l = record {
  follows : leading (number_of l.order) l.bytes l.number (l.directory.count - l.passed) l.at
      + l.passed
      ≡ leading (number_of l.order) l.bytes l.number l.directory.count (l.directory.offset + 2);
  within : l.at + 12 * (l.directory.count - l.passed) + 4 ≤ length l.bytes;
  bound : l.passed ≤ l.directory.count;
}

abbrev pub decreases-loop-passed : goal.decreases-loop-passed
decreases-loop-passed l = l.directory.count - l.passed
