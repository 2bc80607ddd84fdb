use Rattle.std.proofs.Common.{◌≡◌, take}
use Rattle.exif_inventory_heif.specs.Carving.{cut}
use Rattle.exif_inventory_heif.proofs.carve.cut.Given as goal

-- those so far are cut
abbrev pub invariant-loop-span : goal.invariant-loop-span
invariant-loop-span l = l.found.items ≡ cut l.file l.extent (take l.span-index l.spans)
