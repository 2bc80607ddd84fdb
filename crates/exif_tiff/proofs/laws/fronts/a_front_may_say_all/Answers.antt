use Rattle.exif_tiff.proofs.Fronts.{front_has_header, front_says_all, too_large_refused}
use Rattle.exif_tiff.proofs.laws.fronts.a_front_may_say_all.Goals as goal

pub returns-clause-answer : goal.returns-clause-answer
returns-clause-answer c = front_says_all

pub returns-clause-header : goal.returns-clause-header
returns-clause-header c = front_has_header

pub returns-clause-too_large : goal.returns-clause-too_large
returns-clause-too_large c = too_large_refused
