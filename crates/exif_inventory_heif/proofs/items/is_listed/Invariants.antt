use Rattle.std.proofs.Common.{◌≡◌, drop}
use Rattle.exif_inventory_heif.specs.Items.{is_listed}
use Rattle.exif_inventory_heif.proofs.items.is_listed.Given as goal

-- those that are left decide
abbrev pub invariant-loop-item : goal.invariant-loop-item
invariant-loop-item l = is_listed l.number (drop l.item-index l.items) ≡ is_listed l.number l.items
