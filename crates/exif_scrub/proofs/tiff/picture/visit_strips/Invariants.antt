use Rattle.std.proofs.Common.{◌≡◌, ◌-◌}
use Rattle.exif_base.specs.Orders.{number_of}
use Rattle.exif_scrub.specs.Pictures.{strips_from}
use Rattle.exif_scrub.proofs.tiff.picture.visit_strips.Given as goal

-- what the strips that are left make of the new file is what all make of it
abbrev pub invariant-loop-index : goal.invariant-loop-index
invariant-loop-index l =
    strips_from (number_of l.old.order) l.old.bytes.now l.how l.offsets l.lengths (l.count - l.index) l.index l.new
    ≡ strips_from (number_of l.fn.old.order) l.fn.old.bytes.now l.fn.how l.fn.offsets l.fn.lengths l.fn.count 0 l.fn.new
