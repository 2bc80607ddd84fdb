use Rattle.std.proofs.Common.{◌≡◌, drop}
use Rattle.exif_inventory_heif.specs.Gaps.{reach_of}
use Rattle.exif_inventory_heif.proofs.gaps.reach_of.Given as goal

-- those that are left, behind the others, reach as far as all
abbrev pub invariant-loop-extent : goal.invariant-loop-extent
invariant-loop-extent l =
    reach_of l.at l.far (drop l.extent-index l.extents) ≡ reach_of l.at l.at l.extents
