use Rattle.exif_tiff.proofs.FootprintAnswers.{answer_settled, footprint_shared, trace_settled}
use Rattle.exif_tiff.proofs.Visited.{visited}
use Rattle.exif_tiff.proofs.laws.footprint.what_is_not_looked_at_is_free.Goals as goal

pub returns-clause-shared : goal.returns-clause-shared
returns-clause-shared c = footprint_shared

pub returns-clause-trace : goal.returns-clause-trace
returns-clause-trace c = trace_settled

pub returns-clause-answer : goal.returns-clause-answer
returns-clause-answer c = answer_settled

pub returns-clause-visited : goal.returns-clause-visited
returns-clause-visited c = visited
