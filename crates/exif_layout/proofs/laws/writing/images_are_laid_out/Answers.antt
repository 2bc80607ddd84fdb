use Rattle.exif_layout.proofs.Images.Apart.{image_looks_apart}
use Rattle.exif_layout.proofs.Images.Laws.{laid_out, length_is_end}
use Rattle.exif_layout.proofs.laws.writing.images_are_laid_out.Goals as goal
use Rattle.exif_layout.proofs.Images.Contents.{blocks_stand}

pub returns-clause-parts : goal.returns-clause-parts
returns-clause-parts c = laid_out

pub returns-clause-ends : goal.returns-clause-ends
returns-clause-ends c = length_is_end

pub returns-clause-blocks : goal.returns-clause-blocks
returns-clause-blocks c = blocks_stand

pub returns-clause-apart : goal.returns-clause-apart
returns-clause-apart c = image_looks_apart
