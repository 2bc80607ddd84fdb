use Rattle.std.proofs.Common.{rules}
use Rattle.exif_isobmff.specs.ItemLocations.{item_head_at}
use Rattle.exif_isobmff.proofs.locations.item_head.Goals as goal

pub returns-then-reference-ne0 : goal.returns-then-reference-ne0
unfolding item_head_at
returns-then-reference-ne0 c = search rules
