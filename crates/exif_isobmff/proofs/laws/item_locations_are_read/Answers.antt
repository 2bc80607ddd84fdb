use Rattle.exif_isobmff.proofs.LawsLocations.{locations_are_read, is_an_iloc}
use Rattle.exif_isobmff.proofs.laws.item_locations_are_read.Goals as goal

pub returns-clause-read : goal.returns-clause-read
returns-clause-read c = locations_are_read

pub returns-clause-only : goal.returns-clause-only
returns-clause-only c = is_an_iloc
