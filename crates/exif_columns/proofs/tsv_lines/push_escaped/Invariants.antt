use Rattle.std.proofs.Common.{◌≡◌, ◌++◌, take}
use Rattle.exif_columns.specs.Lines.{escaped_cell}
use Rattle.exif_columns.proofs.tsv_lines.push_escaped.Given as goal

-- the bytes so far
abbrev pub invariant-loop-byte : goal.invariant-loop-byte
invariant-loop-byte l = l.line.items ≡ l.initial.line.items ++ escaped_cell (take l.byte-index l.cell)
