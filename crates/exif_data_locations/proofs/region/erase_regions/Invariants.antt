use Rattle.std.proofs.Common.{◌≡◌, length, drop}
use Rattle.exif_data_locations.specs.Regions.{regions_erased}
use Rattle.exif_data_locations.proofs.region.erase_regions.Given as goal

-- the regions that are left, over what became of the others, are all regions over the data
abbrev pub invariant-loop-region : goal.invariant-loop-region
invariant-loop-region l = record {
  made : regions_erased l.unread (drop l.region-index l.regions) (l.bytes, l.whys.items) ≡ regions_erased l.unread l.regions (l.fn.bytes, l.fn.whys.items);
  long : length l.bytes ≡ length l.fn.bytes;
}
