use Rattle.exif_formats.proofs.LawsJxl.{file_is_answered}
use Rattle.exif_formats.proofs.TreesJxl.{is_a_file}
use Rattle.exif_formats.proofs.jxl.laws.jxl_is_boxes.Goals as goal

pub returns-clause-answered : goal.returns-clause-answered
returns-clause-answered c = file_is_answered

pub returns-clause-every : goal.returns-clause-every
returns-clause-every c = is_a_file
