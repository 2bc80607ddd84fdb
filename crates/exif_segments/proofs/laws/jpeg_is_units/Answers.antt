use Rattle.exif_segments.proofs.LawsJpeg.{stream_is_answered, is_a_stream}
use Rattle.exif_segments.proofs.laws.jpeg_is_units.Goals as goal

pub returns-clause-answered : goal.returns-clause-answered
returns-clause-answered c = stream_is_answered

pub returns-clause-every : goal.returns-clause-every
returns-clause-every c = is_a_stream
