use Rattle.std.proofs.Common.{◌≡◌, ◌<◌, ◌+◌, ◌*◌, ◌^◌}
use Rattle.exif_base.specs.Orders.{number_of}
use Rattle.exif_scrub.specs.Entries.{entry_named}
use Rattle.exif_scrub.proofs.tiff.entry.entry_named.Given as goal

-- the first of the entries that are left is that of all
abbrev pub invariant-loop-left : goal.invariant-loop-left
invariant-loop-left l = record {
  first : entry_named (number_of l.old.order) l.old.bytes.now l.tag l.left l.at
      ≡ entry_named (number_of l.fn.old.order) l.fn.old.bytes.now l.fn.tag l.fn.count l.fn.first;
  bound : l.at + 12 * l.left < 2 ^ 61 + 12 * 2 ^ 16;
}

abbrev pub decreases-loop-left : goal.decreases-loop-left
decreases-loop-left l = l.left
