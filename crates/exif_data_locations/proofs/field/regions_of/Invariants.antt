use Rattle.std.proofs.Common.{◌≡◌, ◌++◌, All, length, drop}
use Rattle.exif_base.specs.Orders.{number_of}
use Rattle.exif_data_locations.specs.FieldRegions.{all_regions}
use Rattle.exif_data_locations.specs.Regions.{LiesIn}
use Rattle.exif_data_locations.proofs.field.regions_of.Given as goal

-- the regions with those of the fields that are left are those of all fields
abbrev pub invariant-loop-field : goal.invariant-loop-field
invariant-loop-field l =
    (l.regions.items
    ++ all_regions (number_of l.order) l.bytes (drop (length l.yielded) l.fields)
    (drop (length l.yielded) l.entries)
    ≡ all_regions (number_of l.order) l.bytes l.fields l.entries)
    × All (LiesIn (length l.bytes)) l.regions.items
