use Rattle.std.proofs.Common.{take}
use Rattle.std.specs.Prelude.{map, option_map, string_bytes}
use Rattle.exif_catalog_file.specs.Shown.{AllOf, IsShown}
use Rattle.exif_catalog_file.proofs.visiting.texts_of.Given as goal

-- the texts so far
abbrev pub invariant-loop-i : goal.invariant-loop-i
invariant-loop-i l = AllOf IsShown (take l.i l.row) (map (option_map string_bytes) l.texts.items)
