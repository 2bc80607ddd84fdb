use Rattle.std.proofs.Common.{◌≡◌, ◌-◌}
use Rattle.exif_inventory_heif.specs.Extents.{extent_step, read_view}
use Rattle.exif_inventory_heif.specs.Loops.{repeated}
use Rattle.exif_inventory_heif.proofs.extents.read_extents.Given as goal

-- those that are left, behind those that were found, are all
abbrev pub invariant-loop : goal.invariant-loop
invariant-loop l =
    repeated (extent_step l.w l.source l.base l.kind) (l.count - l.counter) (read_view l.so_far)
    ≡ repeated (extent_step l.w l.source l.base l.kind) l.count (read_view l.fn.reading)
