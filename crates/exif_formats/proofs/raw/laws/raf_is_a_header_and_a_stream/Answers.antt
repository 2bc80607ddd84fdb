use Rattle.exif_formats.proofs.LawsRaf.{raf_file_is_answered, is_a_raf_file}
use Rattle.exif_formats.proofs.raw.laws.raf_is_a_header_and_a_stream.Goals as goal

pub returns-clause-answered : goal.returns-clause-answered
returns-clause-answered c = raf_file_is_answered

pub returns-clause-every : goal.returns-clause-every
returns-clause-every c = is_a_raf_file
