use Rattle.std.proofs.Common.{rules}
use Rattle.exif_reader.specs.Lines.{error_line, fault_line}
use Rattle.exif_reader.proofs.report.lines.set_error_line.Goals as goal

pub returns-in-Ok-clause-text : goal.returns-in-Ok-clause-text
unfolding error_line fault_line
returns-in-Ok-clause-text c = search rules
