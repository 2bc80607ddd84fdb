use Rattle.exif_isobmff.proofs.ItemRanges.{exif_is_located}
use Rattle.exif_isobmff.proofs.laws.exif_data_are_located.Goals as goal

pub returns : goal.returns
returns c = record { located = exif_is_located }
