use Rattle.exif_change_laws.proofs.RemovedUnshared.{erased_apart}
use Rattle.exif_change_laws.proofs.edits.fields_looked_at_once_are_erased.Goals as goal

pub returns : goal.returns
returns c = erased_apart
