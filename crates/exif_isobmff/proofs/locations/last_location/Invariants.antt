use Rattle.std.proofs.Common.{◌≡◌, ◌-◌, None}
use Rattle.std.specs.Option.{option_map}
use Rattle.exif_types.specs.Refusals.{last_read}
use Rattle.exif_isobmff.specs.Boxes.{times_joined}
use Rattle.exif_isobmff.specs.ItemLocations.{location_view, location_at}
use Rattle.exif_isobmff.proofs.locations.last_location.Given as goal

-- what was found and what is still read is what is read in all
abbrev pub invariant-loop : goal.invariant-loop
invariant-loop l =
    last_read (option_map location_view l.last) (times_joined (l.count - l.counter) (location_at l.wanted l.version l.sizes) l.body)
    ≡ last_read None (times_joined l.count (location_at l.wanted l.version l.sizes) l.fn.body)
