use Rattle.std.proofs.Common.{refl}
use Rattle.exif_reader.proofs.ReportingFindings.{other_counted, other_error, own_other}
use Rattle.exif_reader.proofs.report.found_of.Goals as goal

pub returns-in_default : goal.returns-in_default
returns-in_default c = record {
  found = rw c.in-Err.is (other_counted c.in-Err.error c.in_default.not-PartialResult);
  finds = λ answer container h. other_error answer container c.in-Err.error c.in_default.not-PartialResult (rw c.in-Err.is at h);
  own = λ answer h. own_other answer c.in-Err.error c.in_default.not-PartialResult (rw c.in-Err.is at h);
  invalid = tt;
  io = rw c.in-Err.is refl;
}
