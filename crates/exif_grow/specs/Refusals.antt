-- Why an item is not moved.
use Rattle.std.specs.Prelude.{codes}
use Rattle.exif_types.specs.Refusals.{not_supported, too_big}
use Rattle.exif_edit_base.specs.Causes.{Cause, no_data}

-- a field of `iloc` has too few bytes for its new number
abbrev pub narrow : Cause
narrow = no_data (not_supported (codes "Field of ItemLocationBox too narrow"))

-- the item has several extents, and its entry has no space for one alone
abbrev pub several : Cause
several = no_data (not_supported (codes "Exif item in several extents"))

-- the last box runs to the end of the file or past it, and what is appended would be its own
abbrev pub open_ended : Cause
open_ended = no_data (not_supported (codes "Last box of the file has no end"))

-- the item would have more bytes than are read
abbrev pub large : Cause
large = no_data (too_big (codes "Exif item over 65,535 bytes"))
