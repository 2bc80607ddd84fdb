use Rattle.exif_tiff.proofs.FirstFault.{strict_is_first_fault}
use Rattle.exif_tiff.proofs.laws.reading.strict_gives_the_first_fault.Goals as goal

pub returns : goal.returns
returns c = strict_is_first_fault
