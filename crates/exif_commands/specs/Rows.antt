-- The rows of a table.
use Rattle.std.specs.Prelude.{ℕ, List, Option, Result, Ok, Err}
use Rattle.std.specs.Option.{option_map}
use Rattle.exif_columns.specs.Cells.{picture_cells}
use Rattle.exif_columns.specs.Lines.{line_of}
use Rattle.exif_session.specs.declared.request.Table.{Table}
use Rattle.exif_types.specs.Contents.{ExifContents}
use Rattle.exif_types.specs.Failures.{Failure}
use Rattle.exif_types.specs.declared.field.Field.{Field}

-- the row of a file with these fields
abbrev pub cells_in : Table → List ℕ → Option (List Field) → List ℕ
cells_in table path fields =
    line_of table.separator (picture_cells path fields table.form table.tags.items)

-- the row of a file, and how many faults it has; one without Exif data has a row, too
abbrev pub row_with : Table → List ℕ → Result (Option ExifContents × ℕ) Failure
    → Result (List ℕ × ℕ) Failure
row_with table path (Ok (exif, faults)) =
    Ok (cells_in table path (option_map (λ e. e.fields) exif), faults)
row_with table path (Err e) = Err e
