use Rattle.exif_isobmff.proofs.LawsJoined.{item_is_joined, is_an_item}
use Rattle.exif_isobmff.proofs.laws.items_are_joined.Goals as goal

pub returns-clause-joined : goal.returns-clause-joined
returns-clause-joined c = item_is_joined

pub returns-clause-only : goal.returns-clause-only
returns-clause-only c = is_an_item
