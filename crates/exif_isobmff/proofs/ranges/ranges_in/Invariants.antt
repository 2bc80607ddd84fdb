use Rattle.std.proofs.Common.{◌≡◌, map, take}
use Rattle.exif_isobmff.specs.Extents.{range_in}
use Rattle.exif_isobmff.proofs.ranges.ranges_in.Given as goal

-- the ranges of the extents so far
abbrev pub invariant-loop-extent : goal.invariant-loop-extent
invariant-loop-extent l = l.ranges.items ≡ map (range_in l.total l.base) (take l.extent-index l.extents)
