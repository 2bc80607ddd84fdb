use Rattle.exif_json.proofs.FlatSteps.{HasColumns}
use Rattle.exif_json.proofs.flat.write_columns.Given as goal

-- the columns so far
abbrev pub invariant-loop-column : goal.invariant-loop-column
invariant-loop-column l =
    HasColumns l.exif.fields l.column-items l.column-index l.initial.printer.out l.printer.out
