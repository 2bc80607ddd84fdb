use Rattle.exif_xmp_set.proofs.Additions.{items_read, text_reads}
use Rattle.exif_xmp_set.proofs.laws.added_is_read.Goals as goal

pub returns-clause-text : goal.returns-clause-text
returns-clause-text c = text_reads

pub returns-clause-item : goal.returns-clause-item
returns-clause-item c = items_read
