use Rattle.std.proofs.Common.{◌≡◌, ◌++◌, take}
use Rattle.exif_catalog_file.specs.Cells.{names_line}
use Rattle.exif_catalog_file.proofs.answers.push_names.Given as goal

-- the names so far
abbrev pub invariant-loop-i : goal.invariant-loop-i
invariant-loop-i l = l.line.items ≡ l.initial.line.items ++ names_line (take l.i l.names)
