use Rattle.exif_isobmff.proofs.LawsCounts.{count_is_read, is_a_count}
use Rattle.exif_isobmff.proofs.laws.counts_are_boxes.Goals as goal

pub returns-clause-read : goal.returns-clause-read
returns-clause-read c = count_is_read

pub returns-clause-every : goal.returns-clause-every
returns-clause-every c = is_a_count
