use Rattle.std.proofs.Common.{◌≡◌, ◌-◌, []}
use Rattle.exif_inventory_heif.specs.Items.{item_step}
use Rattle.exif_inventory_heif.specs.Loops.{repeated}
use Rattle.exif_inventory_heif.proofs.items.items_in.Given as goal

-- those that are left, behind those that were found, are all
abbrev pub invariant-loop : goal.invariant-loop
invariant-loop l = repeated item_step (l.count - l.counter) (l.rest, l.found.items) ≡ repeated item_step l.count (l.bytes, [])
