use Rattle.std.proofs.Common.{◌≡◌, ◌-◌, []}
use Rattle.exif_inventory_heif.specs.Extents.{entry_step, read_view}
use Rattle.exif_inventory_heif.specs.Loops.{repeated}
use Rattle.exif_inventory_heif.proofs.extents.entries_in.Given as goal

-- those that are left, behind those that were found, are all
abbrev pub invariant-loop : goal.invariant-loop
invariant-loop l =
    repeated (entry_step l.w l.items l.room) (l.count - l.counter) (read_view l.so_far)
    ≡ repeated (entry_step l.w l.items l.room) l.count (l.bytes, [])
