use Rattle.std.proofs.Common.{codes}
use Rattle.exif_types.specs.TagTexts.{tag_text}
use Rattle.exif_columns.proofs.CellSteps.{HasCells}
use Rattle.exif_columns.proofs.rows.header.Given as goal

-- the names of the tags so far
abbrev pub invariant-loop-tag : goal.invariant-loop-tag
invariant-loop-tag l = HasCells (codes "path") tag_text l.tags l.tag-index l.cells
