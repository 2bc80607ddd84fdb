use Rattle.exif_formats.proofs.PictureLaws.{raw_tiff}
use Rattle.exif_formats.proofs.laws.raw_files_are_tiff_data.Goals as goal

pub returns : goal.returns
returns c = record { tiff = raw_tiff }
