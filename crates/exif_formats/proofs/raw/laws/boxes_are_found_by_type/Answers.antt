use Rattle.exif_formats.proofs.LawsBoxes.{are_the_boxes, boxes_are_answered}
use Rattle.exif_formats.proofs.raw.laws.boxes_are_found_by_type.Goals as goal

pub returns-clause-answered : goal.returns-clause-answered
returns-clause-answered c = boxes_are_answered

pub returns-clause-every : goal.returns-clause-every
returns-clause-every c = are_the_boxes
