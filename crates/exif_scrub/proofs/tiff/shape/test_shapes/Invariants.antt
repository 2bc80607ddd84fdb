use Rattle.std.proofs.Common.{◌≡◌, ◌<◌, ◌+◌, ◌*◌, ◌^◌}
use Rattle.exif_base.specs.Orders.{number_of}
use Rattle.exif_scrub.specs.Shapes.{entries_shaped}
use Rattle.exif_scrub.proofs.tiff.shape.test_shapes.Given as goal

-- the entries that are left decide
abbrev pub invariant-loop-left : goal.invariant-loop-left
invariant-loop-left l = record {
  same : entries_shaped (number_of l.old.order) l.old.bytes.now l.keeps_orientation l.count l.first l.left l.at
      ≡ entries_shaped (number_of l.fn.old.order) l.fn.old.bytes.now l.fn.keeps_orientation l.fn.count
      l.fn.first l.fn.count l.fn.first;
  bound : l.at + 12 * l.left < 2 ^ 61 + 12 * 2 ^ 16;
}

abbrev pub decreases-loop-left : goal.decreases-loop-left
decreases-loop-left l = l.left
