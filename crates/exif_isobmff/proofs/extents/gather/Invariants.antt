use Rattle.std.proofs.Common.{◌≡◌, ◌≤◌, [], drop, vec_len}
use Rattle.exif_isobmff.specs.ItemLocations.{extent_bytes, gathered}
use Rattle.exif_isobmff.proofs.extents.gather.Given as goal

-- what was found, with what is still read, is what is read in all
abbrev pub invariant-loop-extent : goal.invariant-loop-extent
invariant-loop-extent l = record {
  room : vec_len l.found ≤ 65535;
  total : gathered (extent_bytes l.within l.bytes l.base) l.found.items (drop l.extent-index l.extents) ≡ gathered (extent_bytes l.within l.bytes l.base) [] l.extents;
}
