use Rattle.exif_edit_base.proofs.LawsLocated.{located_fields}
use Rattle.exif_edit_base.proofs.laws.located_fields_are_read.Goals as goal

pub returns : goal.returns
returns c = located_fields
