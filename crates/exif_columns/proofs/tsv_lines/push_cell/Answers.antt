use Rattle.std.proofs.Common.{sym}
use Rattle.csv.specs.Records.{fields_of}
use Rattle.csv.proofs.RecordFacts.{field-get, field-there}
use Rattle.exif_columns.proofs.tsv_lines.push_cell.Goals as goal

pub returns-in-Some : goal.returns-in-Some
returns-in-Some c = rw (field-get (fields_of c.args.cells.now) c.args.i c.in-Some.cell.now (sym c.in-Some.ensures.value)) c.push_escaped.ensures

pub returns-in-None : goal.returns-in-None
returns-in-None c = absurd (field-there (fields_of c.args.cells.now) c.args.i c.requires (sym c.in-None.ensures.value))
