-- Located Exif data of the code, as definitions see them.
use Rattle.exif_isobmff.specs.declared.located.LocatedExif.{LocatedExif}
use Rattle.exif_isobmff.specs.Extents.{Located}

-- located data of the code as those of a definition
abbrev pub located_view : LocatedExif → Located
located_view l = record { bytes = l.bytes.items; ranges = l.ranges.items }
