use Rattle.exif_tiff.proofs.Limits.{visits_limited, kept_within, cut_past, limit_met, answers_within, lenient_answers_cut, strict_refuses_cut}
use Rattle.exif_tiff.proofs.laws.reading.limits_cut_readings.Goals as goal

pub returns-clause-visits : goal.returns-clause-visits
returns-clause-visits c = visits_limited

pub returns-clause-within : goal.returns-clause-within
returns-clause-within c = kept_within

pub returns-clause-past : goal.returns-clause-past
returns-clause-past c = cut_past

pub returns-clause-met : goal.returns-clause-met
returns-clause-met c = limit_met

pub returns-clause-unchanged : goal.returns-clause-unchanged
returns-clause-unchanged c = answers_within

pub returns-clause-lenient : goal.returns-clause-lenient
returns-clause-lenient c = lenient_answers_cut

pub returns-clause-strict : goal.returns-clause-strict
returns-clause-strict c = strict_refuses_cut
