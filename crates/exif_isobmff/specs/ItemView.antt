-- The Exif item of the code, as definitions see it.
use Rattle.std.specs.Option.{option_map}
use Rattle.exif_isobmff.specs.declared.exif.ExifItem.{ExifItem}
use Rattle.exif_isobmff.specs.ItemLocations.{location_view}
use Rattle.exif_isobmff.specs.Heif.{FoundItem}

-- where the item of the code is
abbrev pub item_view : ExifItem → FoundItem
item_view i = record { location = location_view i.location; idat = option_map (λ b. b.now) i.idat }
