use Rattle.exif_columns.proofs.ReadBack.{differ, read}
use Rattle.exif_columns.proofs.laws.csv_lines_are_read_back.Goals as goal

pub returns-clause-read : goal.returns-clause-read
returns-clause-read c = read

pub returns-clause-differ : goal.returns-clause-differ
returns-clause-differ c = differ
