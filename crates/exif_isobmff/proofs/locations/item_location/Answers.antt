use Rattle.std.proofs.Common.{rules}
use Rattle.exif_isobmff.specs.ItemLocations.{locations}
use Rattle.exif_isobmff.proofs.locations.item_location.Goals as goal

pub returns-clause-gives : goal.returns-clause-gives
unfolding locations
returns-clause-gives c = search rules
