use Rattle.exif_formats.proofs.LawsCr3.{cr3_file_is_answered, is_a_cr3_file}
use Rattle.exif_formats.proofs.raw.laws.cr3_is_boxes.Goals as goal

pub returns-clause-answered : goal.returns-clause-answered
returns-clause-answered c = cr3_file_is_answered

pub returns-clause-every : goal.returns-clause-every
returns-clause-every c = is_a_cr3_file
