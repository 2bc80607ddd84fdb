use Rattle.exif_reader.proofs.LawsFiles.{first_fault_of_file}
use Rattle.exif_reader.proofs.laws.strict_gives_the_first_fault_of_a_file.Goals as goal

pub returns : goal.returns
returns c limit bytes = first_fault_of_file limit bytes (c.strict_gives_the_first_fault.ensures limit)
