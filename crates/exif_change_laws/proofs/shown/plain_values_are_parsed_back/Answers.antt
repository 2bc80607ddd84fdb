use Rattle.exif_change_laws.proofs.ShownKinds.{plainly_shown}
use Rattle.exif_change_laws.proofs.ShownValues.{plain_read}
use Rattle.exif_change_laws.proofs.shown.plain_values_are_parsed_back.Goals as goal

pub returns : goal.returns
returns c = record { plain = plain_read; shown = plainly_shown }
