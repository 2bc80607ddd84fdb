use Rattle.std.proofs.Common.{◌≡◌, ◌≤◌, ◌+◌, ◌-◌, ◌*◌}
use Rattle.exif_base.specs.Orders.{number_of}
use Rattle.exif_scrub.specs.Directories.{entries_kept}
use Rattle.exif_scrub.proofs.tiff.directory.keep_entries.Given as goal

-- what the entries that are left make of the new file is what all make of it
abbrev pub invariant-loop-index : goal.invariant-loop-index
invariant-loop-index l = record {
  made : entries_kept (number_of l.old.order) l.old.bytes.now l.keeps_orientation l.is_nested l.first (l.count - l.index) (l.first + 12 * l.index) l.kept l.new
      ≡ entries_kept (number_of l.fn.old.order) l.fn.old.bytes.now l.fn.keeps_orientation l.fn.is_nested l.fn.first l.fn.count l.fn.first 0 l.fn.new;
  few : l.kept ≤ l.index;
}
