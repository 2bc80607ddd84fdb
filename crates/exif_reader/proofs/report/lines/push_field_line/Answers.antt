use Rattle.std.proofs.Common.{rules}
use Rattle.exif_reader.specs.Lines.{field_line}
use Rattle.exif_reader.proofs.report.lines.push_field_line.Goals as goal

pub returns-in-Ok-clause-text : goal.returns-in-Ok-clause-text
unfolding field_line
returns-in-Ok-clause-text c = search rules
