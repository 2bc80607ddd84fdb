use Rattle.std.proofs.Common.{◌≡◌, take}
use Rattle.csv.specs.Records.{fields_of}
use Rattle.exif_columns.specs.Lines.{escaped_cell}
use Rattle.exif_columns.specs.Texts.{separated}
use Rattle.exif_columns.proofs.tsv_lines.tsv_line.Given as goal

-- the cells so far
abbrev pub invariant-loop-i : goal.invariant-loop-i
invariant-loop-i l = l.line.items ≡ separated 9 escaped_cell (take l.i (fields_of l.cells))
