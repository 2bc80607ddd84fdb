use Rattle.exif_privacy.proofs.AnsweredSteps.{left_is_answered, reasons_are_own}
use Rattle.exif_privacy.proofs.laws.what_is_left_is_answered.Goals as goal

pub returns-clause-answered : goal.returns-clause-answered
returns-clause-answered c = left_is_answered

pub returns-clause-own : goal.returns-clause-own
returns-clause-own c = reasons_are_own
