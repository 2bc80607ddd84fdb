use Rattle.exif_change_laws.proofs.KnownBytes.{each_byte}
use Rattle.exif_change_laws.proofs.found.each_byte_of_a_scrubbed_file_is_told.Goals as goal

pub returns : goal.returns
returns c = each_byte
