use Rattle.std.proofs.Common.{◌≡◌, ◌≤◌, ◌+◌, ◌*◌, Some, length}
use Rattle.exif_base.specs.Orders.{number_of}
use Rattle.exif_grow.specs.Directories.{chain_from}
use Rattle.exif_grow.proofs.directories.chain_from.Given as goal

abbrev pub invariant-loop-left : goal.invariant-loop-left
invariant-loop-left l = record {
  follows : chain_from (number_of l.order) l.bytes l.left (Some l.directory)
      ≡ chain_from (number_of l.order) l.bytes l.fn.k (Some l.fn.first);
  whole : l.directory.offset + 12 * l.directory.count + 6 ≤ length l.bytes;
}

abbrev pub decreases-loop-left : goal.decreases-loop-left
decreases-loop-left l = l.left
