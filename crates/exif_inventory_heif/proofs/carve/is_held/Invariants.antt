use Rattle.std.proofs.Common.{◌≡◌, drop}
use Rattle.exif_inventory_heif.specs.Carving.{is_held}
use Rattle.exif_inventory_heif.proofs.carve.is_held.Given as goal

-- those that are left decide
abbrev pub invariant-loop-span : goal.invariant-loop-span
invariant-loop-span l = is_held l.extent (drop l.span-index l.spans) ≡ is_held l.extent l.spans
