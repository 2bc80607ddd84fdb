use Rattle.std.proofs.Common.{◌≡◌, ◌<◌, drop}
use Rattle.exif_inventory_heif.specs.Gaps.{next_of}
use Rattle.exif_inventory_heif.proofs.gaps.next_of.Given as goal

-- those that are left, behind the others, are as near as all
abbrev pub invariant-loop-extent : goal.invariant-loop-extent
invariant-loop-extent l = record {
  same : next_of l.at l.near (drop l.extent-index l.extents) ≡ next_of l.at l.end l.extents;
  ahead : l.at < l.near;
}
