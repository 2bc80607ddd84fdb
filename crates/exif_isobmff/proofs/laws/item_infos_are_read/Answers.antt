use Rattle.exif_isobmff.proofs.LawsItems.{info_is_read, is_an_info}
use Rattle.exif_isobmff.proofs.laws.item_infos_are_read.Goals as goal

pub returns-clause-read : goal.returns-clause-read
returns-clause-read c = info_is_read

pub returns-clause-every : goal.returns-clause-every
returns-clause-every c = is_an_info
