use Rattle.exif_isobmff.proofs.LawsBoxes.{parent_is_read, is_a_parent}
use Rattle.exif_isobmff.proofs.laws.parents_are_boxes.Goals as goal

pub returns-clause-read : goal.returns-clause-read
returns-clause-read c = parent_is_read

pub returns-clause-every : goal.returns-clause-every
returns-clause-every c = is_a_parent
