use Rattle.std.proofs.Common.{option_map}
use Rattle.exif_columns.specs.Cells.{cell_in}
use Rattle.exif_columns.specs.Texts.{text_of}
use Rattle.exif_columns.proofs.CellSteps.{HasCells}
use Rattle.exif_columns.proofs.rows.row.Given as goal

-- the path, and the cells of the tags so far
abbrev pub invariant-loop-tag : goal.invariant-loop-tag
invariant-loop-tag l =
    HasCells (text_of l.path) (cell_in (option_map (λ e. e.now.fields) l.exif) l.form) l.tags l.tag-index l.cells
