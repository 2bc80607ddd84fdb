use Rattle.std.proofs.Common.{◌≡◌, ◌++◌, take}
use Rattle.exif_catalog_file.specs.Cells.{tsv_field}
use Rattle.exif_catalog_file.proofs.cells.push_text.Given as goal

-- the bytes so far
abbrev pub invariant-loop-byte : goal.invariant-loop-byte
invariant-loop-byte l = l.line.items ≡ l.initial.line.items ++ tsv_field (take l.byte-index l.bytes)
