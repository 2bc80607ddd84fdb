use Rattle.exif_isobmff.proofs.LawsFiles.{file_boxes_are_read}
use Rattle.exif_isobmff.proofs.laws.file_boxes_are_read.Goals as goal

pub returns : goal.returns
returns c = record { read = file_boxes_are_read }
