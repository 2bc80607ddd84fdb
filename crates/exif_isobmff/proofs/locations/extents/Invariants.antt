use Rattle.std.proofs.Common.{◌≡◌, ◌-◌}
use Rattle.exif_isobmff.specs.ItemLocations.{extent_at}
use Rattle.exif_isobmff.specs.Boxes.{times}
use Rattle.exif_isobmff.proofs.LocationsTimes.{times_more}
use Rattle.exif_isobmff.proofs.locations.extents.Given as goal

-- what was found and what is still read is what is read in all
abbrev pub invariant-loop : goal.invariant-loop
invariant-loop l = times_more (extent_at l.sizes) l.found.items (l.count - l.counter) l.body ≡ times l.count (extent_at l.sizes) l.fn.body
