use Rattle.exif_isobmff.proofs.LawsBoxes.{box_is_read, is_a_box, counted_are_read}
use Rattle.exif_isobmff.proofs.laws.boxes_are_read.Goals as goal

pub returns-clause-read : goal.returns-clause-read
returns-clause-read c = box_is_read

pub returns-clause-only : goal.returns-clause-only
returns-clause-only c = is_a_box

pub returns-clause-counted : goal.returns-clause-counted
returns-clause-counted c = counted_are_read
