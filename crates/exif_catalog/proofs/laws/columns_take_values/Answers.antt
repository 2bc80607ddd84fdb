use Rattle.exif_catalog.proofs.Types.{fits}
use Rattle.exif_catalog.proofs.laws.columns_take_values.Goals as goal

pub returns : goal.returns
returns c = record { takes = fits }
