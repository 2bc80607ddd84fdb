use Rattle.std.proofs.Common.{◌≡◌, ◌≤◌, ◌+◌, ◌*◌, length}
use Rattle.exif_base.specs.Orders.{number_of}
use Rattle.exif_grow.specs.Directories.{tag_slot}
use Rattle.exif_grow.proofs.directories.tag_slot.Given as goal

abbrev pub invariant-loop-left : goal.invariant-loop-left
invariant-loop-left l = record {
  follows : tag_slot (number_of l.order) l.bytes l.number l.left l.at
      ≡ tag_slot (number_of l.order) l.bytes l.fn.number l.fn.directory.count (l.fn.directory.offset + 2);
  within : l.at + 12 * l.left + 4 ≤ length l.bytes;
}

abbrev pub decreases-loop-left : goal.decreases-loop-left
decreases-loop-left l = l.left
