use Rattle.std.proofs.Common.{◌≡◌, map, take}
use Rattle.exif_isobmff.specs.Extents.{range_beside}
use Rattle.exif_isobmff.proofs.ranges.ranges_beside.Given as goal

-- the ranges of the extents so far
abbrev pub invariant-loop-extent : goal.invariant-loop-extent
invariant-loop-extent l = l.ranges.items ≡ map (range_beside l.offset l.idat l.base) (take l.extent-index l.extents)
