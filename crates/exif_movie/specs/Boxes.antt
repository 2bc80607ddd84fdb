-- The headers of the boxes of a video (ISO/IEC 14496-12:2015, 4.2).
use Rattle.std.specs.Prelude.{ℕ, List, Bool, false, ◌||◌, is_some, Option, Some, None, if◌then◌else◌}
use Rattle.exif_inventory.specs.BoxHeaders.{box_header, head_of}
use Rattle.exif_inventory.specs.declared.boxes.BoxHeader.{BoxHeader}
use Rattle.exif_inventory.specs.declared.boxes.Head.{Head}

-- whether there is a header, and it states the size of the box
abbrev pub states_size : Option BoxHeader → Bool
states_size None = false
states_size (Some header) = is_some header.size

-- whether bytes begin with such a header
abbrev pub has_size : List ℕ → Bool
has_size bytes = states_size (box_header bytes)

-- the header that bytes begin with, if the box is whole; only a box of the file may have no size
abbrev pub head_at : Bool → List ℕ → Option Head
head_at is_file bytes = if is_file || has_size bytes then head_of bytes else None
