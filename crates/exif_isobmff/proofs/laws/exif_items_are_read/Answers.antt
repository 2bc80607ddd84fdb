use Rattle.exif_isobmff.proofs.LawsItems.{block_is_read, is_a_block}
use Rattle.exif_isobmff.proofs.laws.exif_items_are_read.Goals as goal

pub returns-clause-read : goal.returns-clause-read
returns-clause-read c = block_is_read

pub returns-clause-every : goal.returns-clause-every
returns-clause-every c = is_a_block
