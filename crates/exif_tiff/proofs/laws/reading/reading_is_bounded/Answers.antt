use Rattle.exif_tiff.proofs.LimitBound.{reports_bounded_under, limit_bounds, limit_and_length_bound}
use Rattle.exif_tiff.proofs.VisitBound.{visits_bounded}
use Rattle.exif_tiff.proofs.ReportBound.{reports_bounded}
use Rattle.exif_tiff.proofs.laws.reading.reading_is_bounded.Goals as goal

pub returns-clause-visits : goal.returns-clause-visits
returns-clause-visits c = visits_bounded

pub returns-clause-reports : goal.returns-clause-reports
returns-clause-reports c = reports_bounded

pub returns-clause-any_limit : goal.returns-clause-any_limit
returns-clause-any_limit c = reports_bounded_under

pub returns-clause-limited : goal.returns-clause-limited
returns-clause-limited c = limit_bounds

pub returns-clause-least : goal.returns-clause-least
returns-clause-least c = limit_and_length_bound
