use Rattle.std.proofs.Common.{◌≡◌, drop}
use Rattle.exif_inventory_heif.specs.Carving.{carve_each, layout_view}
use Rattle.exif_inventory_heif.proofs.carve.carve_each.Given as goal

-- those that are left, cut out of what was made, are all
abbrev pub invariant-loop-extent : goal.invariant-loop-extent
invariant-loop-extent l =
    carve_each l.file l.extents (drop l.extent-index l.extents) (layout_view l.so_far)
    ≡ carve_each l.file l.extents l.extents (layout_view l.fn.carving)
