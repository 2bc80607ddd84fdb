use Rattle.exif_isobmff.proofs.LawsItems.{entry_is_read, is_an_entry}
use Rattle.exif_isobmff.proofs.laws.entries_are_read.Goals as goal

pub returns-clause-read : goal.returns-clause-read
returns-clause-read c = entry_is_read

pub returns-clause-every : goal.returns-clause-every
returns-clause-every c = is_an_entry
