use Rattle.std.proofs.Common.{take}
use Rattle.exif_catalog_file.specs.Shown.{AddsRow}
use Rattle.exif_catalog_file.proofs.answers.push_row.Given as goal

-- the values so far
abbrev pub invariant-loop-i : goal.invariant-loop-i
invariant-loop-i l = AddsRow (take l.i l.row) l.initial.line.items l.line.items
