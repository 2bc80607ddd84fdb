use Rattle.std.proofs.Common.{take}
use Rattle.std.specs.List.{flat_map}
use Rattle.exif_reader.specs.Lines.{error_line}
use Rattle.exif_reader.proofs.ReportingLines.{HasSent}
use Rattle.exif_reader.proofs.report.write_errors.Given as goal

-- the lines so far were sent
abbrev pub invariant-loop-error : goal.invariant-loop-error
invariant-loop-error g l =
    HasSent g.W.Sink l.initial.out l.out (flat_map error_line (take l.error-index l.errors))
