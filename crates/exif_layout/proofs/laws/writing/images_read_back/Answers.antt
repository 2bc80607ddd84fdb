use Rattle.exif_layout.proofs.Images.Laws.{reads_back, reads_first_eight}
use Rattle.exif_layout.proofs.laws.writing.images_read_back.Goals as goal

pub returns-clause-whole : goal.returns-clause-whole
returns-clause-whole c = reads_back

pub returns-clause-eight : goal.returns-clause-eight
returns-clause-eight c = reads_first_eight
